-- The worked cases hold of the definitions.
use mathlib.Core.Path.{◌≡◌, refl, sym, ap}
use mathlib.Core.List.{[], ◌∷◌}
use Prim.Native.Nat.{ℕ}
use lib.Dec.{lit<}
use Rattle.modular.specs.Arithmetic.{is_word, all_words, add, sub, mul, pow, inverse}
use Rattle.refusals.specs.Table.{first_refusal}
use Rattle.fields.specs.Prime.{prime}
use Rattle.fields.proofs.Prime.{positive, prime_field, prime_laws}
use Rattle.poseidon2.specs.Layers.{add_lists, sum, dot, rows_times, m4_rows, m4, blocks, join_blocks, sum_blocks, add_to_each, mixed, external, sums, m4_blocks, plus_multiples, internal}
use Rattle.poseidon2.specs.Rounds.{add_constants, seventh_powers, full_round, raise_first, partial_round, full_rounds, partial_rounds, permute_at, permute}
use Rattle.poseidon2.specs.Compression.{compress}
use Rattle.poseidon2.specs.Inverse.{zeros, uninternal}
use Rattle.parameters.specs.Refusals.{several_zeros, bad_diagonal, diagonal_refusals}
use Rattle.parameters.proofs.AcceptedSets.{state_of}
use Rattle.parameters.proofs.Statements.{diagonal_claims}
use Rattle.repeats.specs.Repeats.{member}
use Rattle.merkle.specs.Above.{once, above_at, nodes_above}
use Rattle.merkle.specs.Lists.{put, joined, sum as sumUpTo}
use Rattle.merkle.specs.Levels.{above, level, build, root}
use Rattle.octets.specs.Numbers.{little_endian, numbers_of, digits, decimal}
use Rattle.blobs.specs.Blob.{blob_head, message, shortfall, padded_to, packed, file_words}
use Rattle.opening_tree.specs.Worked.{v_diagonal, Worked}

-- the product with 2 is 1, and that is so of one word alone
inverse_of_two : inverse prime 2 ≡ 9223372034707292161
unfolding mul
inverse_of_two = sym (prime_laws.inverses.only 2 9223372034707292161 (lit< tt) (lit< tt) (lit< tt) refl)

-- V's D is accepted, so M_I under it is undone
undone : uninternal prime v_diagonal (10 ∷ 13 ∷ 14 ∷ 13 ∷ []) ≡ 4 ∷ 3 ∷ 2 ∷ 1 ∷ []
unfolding all_words is_word sum plus_multiples internal zeros several_zeros bad_diagonal diagonal_refusals first_refusal
undone =
    (((diagonal_claims prime prime_field).rows 4 v_diagonal (state_of prime 4 v_diagonal positive refl refl)).accepted refl
    ).back (4 ∷ 3 ∷ 2 ∷ 1 ∷ []) (state_of prime 4 (4 ∷ 3 ∷ 2 ∷ 1 ∷ []) positive refl refl)

pub worked : Worked
unfolding add sub mul pow add_lists sum dot rows_times m4_rows m4 blocks join_blocks sum_blocks add_to_each mixed external sums m4_blocks plus_multiples internal add_constants seventh_powers full_round raise_first partial_round full_rounds partial_rounds permute_at permute compress put joined level above build root member once above_at sumUpTo nodes_above little_endian numbers_of digits decimal blob_head message shortfall padded_to packed file_words zeros several_zeros bad_diagonal diagonal_refusals first_refusal
worked =
    (refl, (refl, (refl, (refl, (refl, (refl, (ap (λ (x : ℕ). x ∷ []) inverse_of_two, (refl, (refl, (refl, (refl, (refl, (refl, (refl, (refl, (refl, (refl, (refl, (refl, (undone, (refl, (refl, (refl, (refl, (refl, (refl, (refl, (refl, (refl, (refl, (refl, (refl, (refl, (refl, (refl, (refl, (refl, (refl, tt))))))))))))))))))))))))))))))))))))))
