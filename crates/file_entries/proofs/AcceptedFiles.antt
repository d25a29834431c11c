-- A set, a file and a leaf to be written that are not refused.
use mathlib.Core.Path.{◌≡◌, ap, ◌∙◌}
use mathlib.Core.Bool.{true, false, not}
use mathlib.Core.List.{List, [], ◌∷◌}
use Prim.Native.Nat.{ℕ, ◌+◌, ◌*◌, ◌/◌, ◌≤◌, ◌<◌}
use native.Mathlib.Nat.{mul-le-mul_right, div-mul-le_self}
use native.Mathlib.Omega.{arith}
use lib.Dec.{eqb, lit<}
use lib.ListN.{length, take}
use borrow.Author.Tests.{eqb-true, ltb-false, lt-ltb, le-ltb, not-false}
use Rattle.refusals.specs.Table.{refusal, first_refusal}
use Rattle.refusals.proofs.Table.{Numbered, none, next, numbered_append, refusal_applies, refusal_passes, refusal_none, first_back, first_none}
use Rattle.poseidon2.specs.Statements.{Width, Words}
use Rattle.parameters.specs.declared.ParameterSet.{ParameterSet}
use Rattle.parameters.specs.ParameterSet.{prime_of, set_refusals}
use Rattle.parameters.proofs.Accepted.{set-numbered}
use Rattle.parameters.proofs.AcceptedSets as sets
use Rattle.file_entries.specs.Files.{too_long, file_refusals}

-- ---- which refusal is the first

pub file_numbered : (s : ParameterSet) (contents leaf : List ℕ) → Numbered (file_refusals s contents leaf)
unfolding file_refusals
file_numbered s contents leaf = numbered_append (set-numbered s) (next (lit< tt) (next (lit< tt) none))

module _ (s : ParameterSet) (contents leaf : List ℕ) (unrefused : first_refusal (set_refusals s) ≡ 0) where
  pub at_10 : eqb (length leaf) s.node_size ≡ false → first_refusal (file_refusals s contents leaf) ≡ 10
  unfolding file_refusals
  at_10 e = first_back (set_refusals s) _ (set-numbered s) unrefused ∙ refusal_applies 10 (not (eqb (length leaf) s.node_size)) _ (ap not e)

  -- the length of the leaf is right
  passes_10 : eqb (length leaf) s.node_size ≡ true → first_refusal (file_refusals s contents leaf) ≡ first_refusal (refusal 16 (too_long contents) ∷ [])
  unfolding file_refusals
  passes_10 e = first_back (set_refusals s) _ (set-numbered s) unrefused ∙ refusal_passes 10 (not (eqb (length leaf) s.node_size)) _ (ap not e)

  pub at_16 : eqb (length leaf) s.node_size ≡ true → too_long contents ≡ true → first_refusal (file_refusals s contents leaf) ≡ 16
  at_16 e f = passes_10 e ∙ refusal_applies 16 (too_long contents) [] f

  pub at_none : eqb (length leaf) s.node_size ≡ true → too_long contents ≡ false → first_refusal (file_refusals s contents leaf) ≡ 0
  unfolding first_refusal
  at_none e f = passes_10 e ∙ refusal_passes 16 (too_long contents) [] f

pub too_long_lem : (contents : List ℕ) → 4294967295 < length contents → too_long contents ≡ true
unfolding too_long
too_long_lem contents h = lt-ltb 4294967295 (length contents) h

pub not_too_long : (contents : List ℕ) → length contents ≤ 4294967295 → too_long contents ≡ false
unfolding too_long
not_too_long contents h = le-ltb 4294967295 (length contents) h

-- ---- what holds where none applies

-- What the core is handed with a set.
pub record AcceptedSet (s : ParameterSet) : Type 0 where
  pub width : Width s.width
  pub node_below : s.node_size < s.width
  pub half_some : 1 ≤ s.full_rounds / 2
  pub half_few : s.full_rounds / 2 ≤ 6
  pub partial_few : s.partial_rounds ≤ 64
  pub constants : Words (prime_of s) (take (s.width * (2 * (s.full_rounds / 2)) + s.partial_rounds) s.constants)

pub accepted_set : (s : ParameterSet) → first_refusal (set_refusals s) ≡ 0 → AcceptedSet s
unfolding set_refusals
accepted_set s unrefused =
    let N = sets.numbers s unrefused in
    record {
      width = N.width;
      node_below = below s.width s.node_size N.node_size.positive N.node_size.several;
      half_some = sets.half_some s unrefused;
      half_few = sets.half_few s unrefused;
      partial_few = N.rounds.few_partial;
      constants = sets.used_constants_lem s unrefused;
    }
  where
    below : (t l : ℕ) → (l ≡ 0 → ⊥) → 2 ≤ t / l → l < t
    below t l some several = omega (arith, some, mul-le-mul_right l several, div-mul-le_self t l)

pub record AcceptedFile (s : ParameterSet) (contents leaf : List ℕ) : Type 0 where
  pub set : AcceptedSet s
  pub leaf_long : length leaf ≡ s.node_size
  pub short : length contents ≤ 4294967295

pub accepted_file : (s : ParameterSet) (contents leaf : List ℕ) → first_refusal (file_refusals s contents leaf) ≡ 0 → AcceptedFile s contents leaf
unfolding file_refusals too_long
accepted_file s contents leaf z =
    let front = first_none (set_refusals s) _ (set-numbered s) z in
    let lengths = refusal_none 9 (not (eqb (length leaf) s.node_size)) _ front.1 in
    let bytes = refusal_none 15 (too_long contents) _ lengths.1 in
    record {
      set = accepted_set s front.0;
      leaf_long = eqb-true (length leaf) s.node_size (not-false (eqb (length leaf) s.node_size) lengths.0);
      short = ltb-false 4294967295 (length contents) bytes.0;
    }
