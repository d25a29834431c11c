-- An accepted push leaves what its records done singly leave, and the push of a list of numbers is the push of its records.
use mathlib.Core.Path.{◌≡◌, refl, sym, ap, subst, ◌∙◌}
use mathlib.Core.Bool.{true, not}
use mathlib.Core.List.{List, [], ◌∷◌, ◌++◌}
use Prim.Native.Nat.{ℕ, ◌*◌, ◌%◌, ◌≤◌, ◌<◌}
use native.Mathlib.Nat.{mul-mod_left}
use lib.ListN.{length, get_or}
use borrow.Author.Tests.{eqb-true, eq-eqb, lt-ltb, not-false}
use Rattle.modular.specs.Arithmetic.{all_words}
use Rattle.modular.proofs.Words.{left_true, words_append, words_left, words_right}
use Rattle.refusals.specs.Table.{first_refusal, not_words, done}
use Rattle.refusals.proofs.Table.{refusal_none, first_none, reply_none, reply_result, done_equations}
use Rattle.refusals.proofs.LengthsAndWords.{both_good}
use Rattle.refusals.proofs.LengthsPlacesAndWords as three
use Rattle.parameters.specs.declared.ParameterSet.{ParameterSet}
use Rattle.parameters.specs.ParameterSet.{prime_of, set_refusals}
use Rattle.parameters.proofs.Accepted.{set-numbered}
use Rattle.merkle.specs.Above.{nodes_above}
use Rattle.merkle.specs.Levels.{Shape, Regular, KeepsWords}
use Rattle.merkle.specs.Openings.{opening}
use Rattle.merkle.specs.Replacement.{Change, replace, singly, push, changed, levelwise}
use Rattle.merkle.specs.Replacement as changes
use Rattle.merkle.specs.Statements.{Proper, LeafWords}
use Rattle.merkle.proofs.Replacement.{length-replace, replace_words}
use Rattle.merkle.proofs.Statements.{word_laws}
use Rattle.trees.specs.Shapes.{counted}
use Rattle.trees.specs.SetTrees.{tree_of_set, leaf_count, store_words}
use Rattle.trees.proofs.Shapes.{keeps_words, node_small}
use Rattle.trees.proofs.SetTrees as tree_of
use Rattle.tree_entries.specs.Trees.{has}
use Rattle.change_entries.specs.Replacement.{replace_refusals, replacement, replace_reply, replaced}
use Rattle.change_entries.proofs.AcceptedChanges.{replace_numbered}
use Rattle.records.specs.declared.record.Record.{Record}
use Rattle.records.specs.Records.{leaf_of, changes_of, places_of, places_below, used_words, SixWords}
use Rattle.records.specs.Listed.{whole_records, flat}
use Rattle.records.proofs.Changes.{changes_places, changes_words, changes_fit, changes_proper, length-places}
use Rattle.records.proofs.Listed.{listed_six, flat_length, listed_flat}
use Rattle.push_entries.specs.Pushes.{few_records, push_refusals, pushing, push_reply, pushed}
use Rattle.push_entries.specs.Statements.{done_singly, EachDone, PushesOnce, SamePush, Read, ListedPushes}
use Rattle.push_entries.proofs.Passes.{push_numbered}
use Rattle.push_entries.proofs.Listed.{whole_reply, whole_pushed}

-- ---- the records done singly

pub few_nodes : (s : ParameterSet) → first_refusal (set_refusals s) ≡ 0 → (rs : List Record) → nodes_above (tree_of_set s).arity s.height (places_of rs) ≤ s.height * length rs
few_nodes s none rs =
    subst (λ (n : ℕ). nodes_above (tree_of_set s).arity s.height (places_of rs) ≤ s.height * n) (length-places rs) ((tree_of.laws s none).counts.most s.height (places_of rs))

module _ (s : ParameterSet) (none : first_refusal (set_refusals s) ≡ 0) where
  abbrev S : Shape
  S = tree_of_set s

  regular : Regular S
  regular = tree_of.shape_regular s none

  keeps : KeepsWords (prime_of s) S
  keeps = keeps_words (tree_of.valid_numbers s none) s.diagonal s.constants

  -- one replacement
  one_done : (store : List ℕ) (q : ℕ) (leaf : List ℕ) → length store ≡ store_words s → length leaf ≡ s.node_size → q < leaf_count s
      → all_words (prime_of s) leaf ≡ true → all_words (prime_of s) store ≡ true
      → (replace_reply s store q leaf ≡ done (s.height ∷ [])) × (replaced s store q leaf ≡ (replace S s.height q leaf store).store)
  unfolding replace_reply replaced replace_refusals
  one_done store q leaf e f b v w =
      let opened = (word_laws S regular (prime_of s) keeps).opened s.height q store w in
      let z : first_refusal (replace_refusals s store q leaf) ≡ 0 =
      three.at_words (prime_of s) (set_refusals s) (set-numbered s) _ _ _ none (both_good _ _ (eq-eqb (length store) (store_words s) e) (eq-eqb (length leaf) s.node_size f)) (ap not (lt-ltb q (leaf_count s) b))
      ∙ three.no_twelve (prime_of s) (leaf ++ opening S s.height q store) (words_append (prime_of s) leaf (opening S s.height q store) v opened) in
      let E = done_equations (replace_refusals s store q leaf) ((replacement s store q leaf).made ∷ []) store (replacement s store q leaf).store (replace_numbered s store q leaf) z in
      (sym E.0 ∙ ap (λ (n : ℕ). done (n ∷ [])) ((tree_of.laws s none).counts.one s.height q leaf store), sym E.1)

  -- one after another
  all_done : (rs : List Record) (store : List ℕ) → Proper S s.height (changes_of s.node_size rs) → LeafWords (prime_of s) (changes_of s.node_size rs)
      → length store ≡ store_words s → all_words (prime_of s) store ≡ true
      → EachDone s rs store × (done_singly s rs store ≡ singly S s.height (changes_of s.node_size rs) store)
  unfolding changes_of done_singly singly replace
  all_done [] store P L e w = (tt, refl)
  all_done (r ∷ rs) store P L e w =
      let leaf : List ℕ = leaf_of s.node_size r in
      let O = one_done store r.place leaf e P.1 P.0 L.0 w in
      let next : List ℕ = (replace S s.height r.place leaf store).store in
      let long : length next ≡ store_words s = length-replace S regular s.height r.place P.0 leaf (counted store 0) P.1 e in
      let wordy : all_words (prime_of s) next ≡ true = replace_words S regular s.height r.place P.0 (prime_of s) keeps leaf (counted store 0) P.1 e L.0 w in
      let R = all_done rs next P.2 L.1 long wordy in
      ((O.0, subst (EachDone s rs) (sym O.1) R.0), ap (done_singly s rs) O.1 ∙ R.1)

pub pushes_once : PushesOnce
unfolding push_reply pushed push_refusals not_words push
pushes_once s store rs answer sixes e =
    let cs : List Change = changes_of s.node_size rs in
    let z = reply_none (push_refusals s store rs) ((pushing s store rs).made ∷ []) (answer ∷ []) e in
    let f = first_none (set_refusals s) _ (set-numbered s) z in
    let none = f.0 in
    let lengths = refusal_none 9 _ _ f.1 in
    let places = refusal_none 10 _ _ lengths.1 in
    let words : all_words (prime_of s) (used_words s.node_size rs ++ store) ≡ true = not-false _ (refusal_none 11 _ _ places.1).0 in
    let whole : length store ≡ store_words s = eqb-true (length store) (store_words s) (left_true (has store (store_words s)) (few_records rs) (not-false _ lengths.0)) in
    let below : places_below (leaf_count s) rs ≡ true = not-false _ places.0 in
    let leaves : all_words (prime_of s) (used_words s.node_size rs) ≡ true = words_left (prime_of s) (used_words s.node_size rs) store words in
    let wordy : all_words (prime_of s) store ≡ true = words_right (prime_of s) (used_words s.node_size rs) store words in
    let P = changes_proper s (node_small (tree_of.valid_numbers s none)) rs sixes below in
    let L = changes_words (prime_of s) s.node_size rs leaves in
    let D = all_done s none rs store P L whole wordy in
    let same : changes.places_of cs ≡ places_of rs = changes_places s.node_size rs in
    let counted-as : answer ≡ nodes_above (tree_of_set s).arity s.height (places_of rs) =
    sym (ap (λ (xs : List ℕ). get_or xs 0 0) (reply_result (push_refusals s store rs) ((pushing s store rs).made ∷ []) (answer ∷ []) (push_numbered s store rs) e))
    ∙ ap (nodes_above (tree_of_set s).arity s.height) same in
    let left : pushed s store rs ≡ singly (tree_of_set s) s.height cs store =
    sym (done_equations (push_refusals s store rs) ((pushing s store rs).made ∷ []) store (pushing s store rs).store (push_numbered s store rs) z).1 in
    record {
      counted = counted-as;
      most = rw counted-as (few_nodes s none rs);
      singly = D.0;
      left = left ∙ sym D.1;
      by_one =
          ap (λ (qs : List ℕ). levelwise (tree_of_set s) s.height qs s.height (counted (changed (tree_of_set s) cs store) 0)) (sym same)
          ∙ (tree_of.laws s none).level_by_level s.height cs store (changes_fit s rs below) whole
          ∙ (λ i. counted (sym left i) (sym (counted-as ∙ ap (nodes_above (tree_of_set s).arity s.height) (sym same)) i));
    }

-- ---- records as numbers

whole : (ns : List ℕ) → whole_records ns ≡ true → length ns % 7 ≡ 0
unfolding whole_records
whole ns e = eqb-true (length ns % 7) 0 e

same : (s : ParameterSet) (store ns : List ℕ) → whole_records ns ≡ true → SamePush s store ns
same s store ns e = record { answer = sym (whole_reply s store ns (whole ns e)); left = sym (whole_pushed s store ns (whole ns e)); six_words = listed_six ns }

every : (rs : List Record) → SixWords rs → Read rs
unfolding whole_records
every rs S = record {
  whole = eq-eqb (length (flat rs) % 7) 0 (ap (λ (n : ℕ). n % 7) (flat_length rs S) ∙ mul-mod_left (length rs) 7);
  records = listed_flat rs S;
}

pub listed_pushes : ListedPushes
listed_pushes = record { same = same; every = every }
