-- The permutation and its inverse under an accepted set, and the entries in turn.
use mathlib.Core.Path.{◌≡◌, refl, sym, ap, ◌∙◌}
use mathlib.Core.Bool.{not}
use mathlib.Core.List.{List, []}
use Prim.Native.Nat.{ℕ, zero, suc}
use native.Mathlib.Omega.{arith}
use lib.ListN.{length, take}
use borrow.Author.Tests.{eq-eqb}
use Rattle.fields.proofs.Prime.{positive, prime_field}
use Rattle.modular.proofs.Words.{words_by}
use Rattle.refusals.specs.Table.{first_refusal, refused, done, after}
use Rattle.refusals.proofs.Table.{reply_refused, reply_done, kept_after, written_after}
use Rattle.refusals.proofs.LengthsAndWords.{at_none}
use Rattle.parameters.specs.declared.ParameterSet.{ParameterSet}
use Rattle.parameters.specs.ParameterSet.{prime_of, used_diagonal, set_refusals}
use Rattle.parameters.proofs.Accepted.{set-numbered}
use Rattle.poseidon2.specs.Layers.{add_lists}
use Rattle.poseidon2.specs.Compression.{compress}
use Rattle.poseidon2.specs.Statements.{State, Undo}
use Rattle.poseidon2.proofs.Rounds.{claims}
use Rattle.state_entries.specs.Permutation.{permute_under, unpermute_under, compress_under, state_refusals, state_reply, permuted, unpermuted, compress_refusals, compress_reply, compressed}
use Rattle.state_entries.specs.Statements.{Places, UnderAccepted, InTurn, PermutationClaims}
use Rattle.parameters.proofs.AcceptedSets as sets
use Rattle.state_entries.proofs.AcceptedStates.{accepted, accepted_compression, state_numbered}

module _ (s : ParameterSet) (P : Places s) where
  module _ (none : first_refusal (set_refusals s) ≡ 0) where
    undo : Undo (prime_of s) s.width (permute_under s) (unpermute_under s)
    unfolding permute_under unpermute_under used_diagonal
    undo =
        let N = sets.numbers s none in
        let D = sets.used_diagonal_lem s none P.diagonal in
        let U = (claims (prime_of s) prime_field).invertible.permutation s.width _ _ s.diagonal s.constants N.width D in
        record { to = U.to; from = U.from; back = U.back; forth = U.forth }

    pub under_accepted : UnderAccepted s
    unfolding permute_under compress_under compress
    under_accepted =
        let N = sets.numbers s none in
        record {
          inverse = undo;
          compression = λ xs S. (refl, (claims (prime_of s) prime_field).sizes.compression s.width _ _ _ _ _ xs N.width S.width (sets.node_size_fits s none));
        }

    -- t words are taken
    taken : (xs : List ℕ) → State (prime_of s) s.width xs → state_reply s xs ≡ done []
    unfolding state_reply state_refusals
    taken xs S =
        let words = words_by (prime_of s) xs (λ i b. S.words.at i) in
        reply_done (state_refusals s xs) [] (state_numbered s xs)
        (at_none (prime_of s) (set_refusals s) (set-numbered s) _ xs none (ap not (eq-eqb (length xs) s.width S.width)) words)

  -- Where a list is refused both calls leave it; where it is taken it is a state of an accepted set.
  refused_both : (xs : List ℕ) (n : ℕ) → state_reply s xs ≡ refused n → (permuted s xs ≡ xs) × (unpermuted s xs ≡ xs)
  unfolding permuted unpermuted
  refused_both xs n e = (sym (kept_after xs _ e), sym (kept_after xs _ e))

  done_both : (xs : List ℕ) → state_reply s xs ≡ done [] → (permuted s xs ≡ permute_under s xs) × (unpermuted s xs ≡ unpermute_under s xs)
  unfolding permuted unpermuted
  done_both xs e = (sym (written_after xs _ e), sym (written_after xs _ e))

  -- what is compressed is taken as a state
  compressed_of : (xs node : List ℕ) → compressed s xs node ≡ after (compress_reply s xs node) node (take s.node_size (add_lists (prime_of s) (permuted s xs) xs))
  unfolding compressed compress_reply
  compressed_of xs node = of (first_refusal (compress_refusals s xs node)) refl
    where
      of : (n : ℕ) → first_refusal (compress_refusals s xs node) ≡ n
          → after (compress_reply s xs node) node (compress_under s xs) ≡ after (compress_reply s xs node) node (take s.node_size (add_lists (prime_of s) (permuted s xs) xs))
      of zero z =
          let A = (accepted_compression s xs node z).state in
          let none = A.set in
          let S : State (prime_of s) s.width xs = sets.state_of (prime_of s) s.width xs positive A.long A.words in
          let same : compress_under s xs ≡ take s.node_size (add_lists (prime_of s) (permuted s xs) xs) =
          ((under_accepted none).compression xs S).0 ∙ ap (λ (ys : List ℕ). take s.node_size (add_lists (prime_of s) ys xs)) (sym (done_both xs (taken none xs S)).0) in
          ap (after (compress_reply s xs node) node) same
      of (suc n) z =
          let R : compress_reply s xs node ≡ refused (first_refusal (compress_refusals s xs node)) = reply_refused (compress_refusals s xs node) [] (λ e. absurd (omega arith)) in
          sym (kept_after node (compress_under s xs) R) ∙ kept_after node _ R

  in_turn : (xs : List ℕ) → InTurn s xs
  unfolding state_reply
  in_turn xs = of (first_refusal (state_refusals s xs)) refl
    where
      of : (n : ℕ) → first_refusal (state_refusals s xs) ≡ n → InTurn s xs
      of zero z =
          let A = accepted s xs z in
          let none = A.set in
          let U = undo none in
          let S : State (prime_of s) s.width xs = sets.state_of (prime_of s) s.width xs positive A.long A.words in
          let R : state_reply s xs ≡ done [] = reply_done (state_refusals s xs) [] (state_numbered s xs) z in
          let B = done_both xs R in
          let to = taken none (permute_under s xs) (U.to xs S) in
          let from = taken none (unpermute_under s xs) (U.from xs S) in
          record {
            back = ap (unpermuted s) B.0 ∙ (done_both (permute_under s xs) to).1 ∙ U.back xs S;
            forth = ap (permuted s) B.1 ∙ (done_both (unpermute_under s xs) from).0 ∙ U.forth xs S;
            answer_back = ap (state_reply s) B.0 ∙ to ∙ sym R;
            answer_forth = ap (state_reply s) B.1 ∙ from ∙ sym R;
            compression = compressed_of xs;
          }
      of (suc n) z =
          let R : state_reply s xs ≡ refused (first_refusal (state_refusals s xs)) = reply_refused (state_refusals s xs) [] (λ e. absurd (omega arith)) in
          let K = refused_both xs _ R in
          record {
            back = ap (unpermuted s) K.0 ∙ K.1;
            forth = ap (permuted s) K.1 ∙ K.0;
            answer_back = ap (state_reply s) K.0;
            answer_forth = ap (state_reply s) K.1;
            compression = compressed_of xs;
          }

pub permutation_claims : PermutationClaims
permutation_claims = record { accepted = under_accepted; entries = in_turn }
