-- Demand 3.
use mathlib.Core.Path.{◌≡◌, refl, sym, ap, subst, ◌∙◌}
use mathlib.Core.List.{List, [], ◌∷◌}
use Prim.Native.Nat.{ℕ}
use Rattle.refusals.specs.Table.{first_refusal, Reply}
use Rattle.refusals.proofs.Table.{written_after}
use Rattle.parameters.specs.declared.ParameterSet.{ParameterSet}
use Rattle.parameters.specs.ParameterSet.{set_refusals}
use Rattle.tree_entries.specs.Trees.{built, opened}
use Rattle.history.specs.LeafBook.{Call, replacement, push, leaf_at, book_reply, book_after, book_leaves, book_answers}
use Rattle.history.specs.History.{Ran, call_reply, run}
use Rattle.history.specs.Demand3.{Typed, root_of, Faithful, Demand3}
use Rattle.history.proofs.Sets.{store_of, Leaves, begun, builds}
use Rattle.history.proofs.Calls.{Follows, replacement_follows, push_follows}
use Rattle.history.proofs.Openings.{verdict, opens, own_taken}
use Rattle.history.proofs.Collisions.{collides_iff}

module _ (s : ParameterSet) (valid : first_refusal (set_refusals s) ≡ 0) where
  -- a list of calls, from the store built from the book's leaves
  pub record Whole (calls : List Call) (xs : List ℕ) : Type 0 where
    pub store : (run s calls (store_of s xs)).store ≡ store_of s (book_leaves s calls xs)
    pub answers : (run s calls (store_of s xs)).answers ≡ book_answers s calls
    pub leaves : Leaves s (book_leaves s calls xs)

  next : (c : Call) (cs : List Call) (xs : List ℕ) → Follows s c xs → Whole cs (book_after s c xs) → Whole (c ∷ cs) xs
  unfolding run book_leaves book_answers
  next c cs xs F W =
      record {
        store = ap (λ (z : List ℕ). (run s cs z).store) F.store ∙ W.store;
        answers =
            ap (λ (z : List ℕ). call_reply s c (store_of s xs) ∷ (run s cs z).answers) F.store
            ∙ ap (λ (r : Reply). r ∷ (run s cs (store_of s (book_after s c xs))).answers) F.answers
            ∙ ap (λ (rs : List Reply). book_reply s c ∷ rs) W.answers;
        leaves = W.leaves;
      }

  pub whole : (calls : List Call) (xs : List ℕ) → Typed calls → Leaves s xs → Whole calls xs
  unfolding run book_leaves book_answers
  whole [] xs T L = record { store = refl; answers = refl; leaves = L }
  whole (replacement q leaf ∷ cs) xs T L =
      let F = replacement_follows s valid xs L q leaf in
      next (replacement q leaf) cs xs F (whole cs (book_after s (replacement q leaf) xs) T F.leaves)
  whole (push rs ∷ cs) xs T L =
      let F = push_follows s valid xs L rs T.0 in
      next (push rs) cs xs F (whole cs (book_after s (push rs) xs) T.1 F.leaves)

  -- the four parts, of the store built from the book's leaves
  faithful : (xs : List ℕ) (left : Ran) (answers : List Reply) → Leaves s xs
      → left.store ≡ store_of s xs → left.answers ≡ answers → Faithful s left xs answers
  unfolding built
  faithful xs left answers L e f =
      let store = store_of s xs in
      subst (λ (z : List ℕ). Faithful s (record { store = z; answers = left.answers }) xs answers) (sym e)
      (record {
        stored = λ buffer g. (builds s valid xs L buffer g, written_after buffer store (builds s valid xs L buffer g));
        answered = f;
        own = λ q b buffer g. (
          opens s valid xs L q b buffer g,
          verdict s (root_of s store) q (leaf_at s q xs) (opened s store q buffer) valid (own_taken s valid xs L q b buffer g),
        );
        other = λ q b buffer g leaf siblings n first second lf ls.
            collides_iff s valid (root_of s store) q leaf siblings (leaf_at s q xs) (opened s store q buffer) first second (own_taken s valid xs L q b buffer g) n lf ls;
      })

pub demand3 : Demand3
demand3 s leaves buffer e calls T =
    let B = begun s leaves buffer e in
    let W = whole s B.set calls leaves T B.given in
    faithful s B.set (book_leaves s calls leaves) (run s calls (built s leaves buffer)) (book_answers s calls) W.leaves
    (ap (λ (z : List ℕ). (run s calls z).store) B.written ∙ W.store)
    (ap (λ (z : List ℕ). (run s calls z).answers) B.written ∙ W.answers)
