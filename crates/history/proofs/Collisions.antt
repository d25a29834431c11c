-- Extraction gives a collision where, and only where, the first leaf is accepted too.
use mathlib.Core.Path.{◌≡◌}
use mathlib.Core.Logic.{◌≢◌, ◌↔◌}
use mathlib.Core.Bool.{Bool}
use mathlib.Core.List.{List, [], ◌∷◌}
use Prim.Native.Nat.{ℕ}
use lib.ListN.{length}
use Rattle.modular.proofs.Words.{left_true, and_true}
use Rattle.refusals.specs.Table.{first_refusal, done}
use Rattle.refusals.proofs.Table.{reply_none}
use Rattle.parameters.specs.declared.ParameterSet.{ParameterSet}
use Rattle.parameters.specs.ParameterSet.{set_refusals}
use Rattle.merkle.specs.Openings.{accepts}
use Rattle.trees.specs.SetTrees.{tree_of_set}
use Rattle.tree_entries.specs.Trees.{verify_reply}
use Rattle.extraction_entries.specs.Extraction.{Pair, pair, both_accepted, extract_refusals, collision, level_of, extract_reply}
use Rattle.extraction_entries.specs.Statements.{Collides}
use Rattle.extraction_entries.proofs.AcceptedPairs.{Paired, pair_passes}
use Rattle.extraction_entries.proofs.Extracted.{paired, both}
use Rattle.extraction_entries.proofs.Statements.{extracting}
use Rattle.history.proofs.Openings.{Offered, offered, verdict}

module _ (s : ParameterSet) (valid : first_refusal (set_refusals s) ≡ 0) (top : List ℕ) (q : ℕ) (a x b y first second : List ℕ) where
  abbrev two : Pair
  two = pair top q a x b y

  abbrev one : Bool
  one = accepts (tree_of_set s) s.height top q a x

  abbrev other : Bool
  other = accepts (tree_of_set s) s.height top q b y

  -- nothing was refused: the first leaf is accepted
  answered_offered : (result : List ℕ) → extract_reply s two first second ≡ done result → Offered s top q a x
  unfolding extract_reply both_accepted
  answered_offered result e =
      let z = reply_none (extract_refusals s two first second) (level_of (collision s two) ∷ []) result e in
      let P = paired s two first second z in
      record {
        top_long = P.root_long;
        top_words = P.root_words;
        inside = P.place;
        opening = P.opening;
        ends = left_true one other (both s two first second z);
      }

  -- two different leaves that are both accepted, and buffers of t numbers
  collides : Offered s top q a x → Offered s top q b y → a ≢ b → length first ≡ s.width → length second ≡ s.width → Collides s two first second
  unfolding both_accepted
  collides A B n lf ls =
      let P : Paired s two first second = record {
        set = valid;
        root_long = A.top_long;
        root_words = A.top_words;
        place = A.inside;
        opening = A.opening;
        other = B.opening;
        first_long = lf;
        second_long = ls;
      } in
      (extracting s two first second (pair_passes s two first second P) (and_true one other A.ends B.ends) n).0

  pub collides_iff : Offered s top q b y → a ≢ b → length first ≡ s.width → length second ≡ s.width
      → (verify_reply s top q a x ≡ done (1 ∷ [])) ↔ Collides s (pair top q a x b y) first second
  collides_iff B n lf ls = (
    λ e. collides (offered s top q a x e) B n lf ls,
    λ (C : Collides s (pair top q a x b y) first second). verdict s top q a x valid (answered_offered (C.level ∷ []) C.answered),
  )
