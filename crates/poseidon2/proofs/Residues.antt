-- The layers and the rounds depend on residues only.
use mathlib.Core.Path.{◌≡◌, refl, sym, ap, ap₂, ◌∙◌}
use mathlib.Core.List.{List, [], ◌∷◌, map}
use Prim.Native.Nat.{ℕ, ◌%◌}
use lib.ListN.{take}
use Rattle.modular.specs.Arithmetic.{add, pow}
use Rattle.modular.specs.Congruence.{◌≈⟨◌⟩◌}
use Rattle.modular.proofs.Congruence.{refl≈, add≈, mul≈, mod≈}
use Rattle.poseidon2.specs.Layers.{add_lists, dot, rows_times, m4, blocks, join_blocks, mixed, external, internal}
use Rattle.poseidon2.specs.Rounds.{add_constants, full_round, seventh_powers, raise_first, partial_round, permute_at, permute}
use Rattle.poseidon2.specs.Compression.{compress}
use Rattle.poseidon2.specs.Residues.{residues}
use Rattle.poseidon2.specs.Statements.{OnResidues}
use Rattle.poseidon2.proofs.Words.{cons_eq, residues_length, residues_twice, add_lists-left, add_lists_right}
use Rattle.poseidon2.proofs.Internal.{internal_residues}

module _ (p : ℕ) where
  dot_residues : (row xs : List ℕ) → dot row (residues p xs) ≈⟨ p ⟩ dot row xs
  unfolding dot residues
  dot_residues [] xs = refl≈
  dot_residues (a ∷ row) [] = add≈ refl≈ (dot_residues row [])
  dot_residues (a ∷ row) (x ∷ xs) = add≈ (mul≈ (refl≈ {a = a}) (mod≈ x)) (dot_residues row xs)

  rows_times-residues : (rows : List (List ℕ)) (xs : List ℕ) → rows_times p rows (residues p xs) ≡ rows_times p rows xs
  unfolding rows_times
  rows_times-residues [] xs = refl
  rows_times-residues (row ∷ rows) xs = cons_eq (dot_residues row xs).same (rows_times-residues rows xs)

  pub m4_residues : (xs : List ℕ) → m4 p (residues p xs) ≡ m4 p xs
  unfolding m4
  m4_residues xs = rows_times-residues _ xs

  m4_blocks_residues : (xs : List ℕ) → map (m4 p) (blocks (residues p xs)) ≡ map (m4 p) (blocks xs)
  unfolding blocks residues
  m4_blocks_residues [] = refl
  m4_blocks_residues (a ∷ []) = refl
  m4_blocks_residues (a ∷ b ∷ []) = refl
  m4_blocks_residues (a ∷ b ∷ c ∷ []) = refl
  m4_blocks_residues (a ∷ b ∷ c ∷ d ∷ xs) =
      ap₂ (λ (y : List ℕ) (ys : List (List ℕ)). y ∷ ys) (m4_residues (a ∷ b ∷ c ∷ d ∷ [])) (m4_blocks_residues xs)

  pub external_residues : (xs : List ℕ) → external p (residues p xs) ≡ external p xs
  unfolding external
  external_residues xs = ap (λ (bs : List (List ℕ)). join_blocks (mixed p bs)) (m4_blocks_residues xs)

  pub full_round-residues : (cs xs : List ℕ) → full_round p cs (residues p xs) ≡ full_round p cs xs
  unfolding full_round add_constants
  full_round-residues cs xs = ap (λ (ys : List ℕ). external p (seventh_powers p ys)) (add_lists-left p xs cs)

  -- a partial round may start from any numbers
  raise_first-residues : (c : ℕ) (xs : List ℕ) → residues p (raise_first p c (residues p xs)) ≡ residues p (raise_first p c xs)
  unfolding raise_first residues add
  raise_first-residues c [] = refl
  raise_first-residues c (x ∷ xs) = cons_eq (ap (λ (y : ℕ). pow p y 7 % p) (add≈ (mod≈ x) (refl≈ {a = c})).same) (residues_twice p xs)

  pub partial_round-residues : (D : List ℕ) (c : ℕ) (xs : List ℕ) → partial_round p D c (residues p xs) ≡ partial_round p D c xs
  unfolding partial_round
  partial_round-residues D c xs =
      sym (internal_residues p D (raise_first p c (residues p xs))) ∙ ap (internal p D) (raise_first-residues c xs) ∙ internal_residues p D (raise_first p c xs)

  pub permute_residues : (half rp : ℕ) (D C xs : List ℕ) → permute p half rp D C (residues p xs) ≡ permute p half rp D C xs
  unfolding permute permute_at
  permute_residues half rp D C xs = rw (residues_length p xs, external_residues xs)

  pub compress_residues : (l half rp : ℕ) (D C xs : List ℕ) → compress p l half rp D C (residues p xs) ≡ compress p l half rp D C xs
  unfolding compress
  compress_residues l half rp D C xs =
      ap (take l)
      (add_lists_right p (permute p half rp D C (residues p xs)) xs ∙ ap (λ (ys : List ℕ). add_lists p ys xs) (permute_residues half rp D C xs))

  pub on_residues_lem : OnResidues p
  on_residues_lem = record {
    external_layer = external_residues;
    internal_layer = internal_residues p;
    permutation = permute_residues;
    compression = compress_residues;
  }
