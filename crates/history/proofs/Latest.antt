-- Each leaf of the book is the last one accepted for its place, or the one handed to building.
use mathlib.Core.Path.{◌≡◌, refl, sym, ap, ◌∙◌}
use mathlib.Core.Bool.{Bool, true, false, cond}
use mathlib.Core.List.{List, [], ◌∷◌, ◌++◌}
use Prim.Native.Nat.{ℕ, zero, suc, ◌+◌, ◌*◌, ◌≤◌, ◌<◌}
use native.Mathlib.Decide.{dec_lt}
use native.Mathlib.Omega.{arith}
use lib.Dec.{eqb}
use lib.ListN.{length}
use borrow.Author.Tests.{eqb-true, eqb-false}
use Rattle.modular.proofs.Words.{words_left}
use Rattle.refusals.specs.Table.{first_refusal, refused, done, Reply, after}
use Rattle.refusals.proofs.Table.{reply_refused, reply_done}
use Rattle.parameters.specs.declared.ParameterSet.{ParameterSet}
use Rattle.parameters.specs.ParameterSet.{prime_of, set_refusals}
use Rattle.merkle.specs.Lists.{part, put}
use Rattle.merkle.specs.Replacement.{Change}
use Rattle.merkle.proofs.Lists.{part_put, part_put_before, part_put_behind}
use Rattle.merkle.proofs.Levels.{fits}
use Rattle.trees.specs.SetTrees.{leaf_count}
use Rattle.records.specs.declared.record.Record.{Record}
use Rattle.records.specs.Records.{leaf_of, changes_of, used_words, SixWords}
use Rattle.history.specs.LeafBook.{Call, replacement, push, leaf_at, enter_all, book_refusals, book_count, book_reply, entered, book_after, book_leaves}
use Rattle.history.specs.Demand3.{Typed}
use Rattle.history.specs.Latest.{brought, if_accepted, accepted, last_for, Latest}
use Rattle.history.proofs.Sets.{Leaves, begun}
use Rattle.history.proofs.Book.{book_numbered, good, Fit, fit, leaf_fits, first_inside, rest_fits, put_leaves, replacement_leaves, push_leaves}

-- changes one after the other
last_append : (q : ℕ) (given : List ℕ) (xs ys : List Change) → last_for q given (xs ++ ys) ≡ last_for q (last_for q given xs) ys
unfolding last_for
last_append q given [] ys = refl
last_append q given (c ∷ xs) ys = last_append q (cond (eqb c.place q) c.leaf given) xs ys

module _ (s : ParameterSet) (valid : first_refusal (set_refusals s) ≡ 0) (q : ℕ) (inside : q < leaf_count s) where
  -- the leaf at q where another, or this one, is put to its place
  leaf_put : (xs : List ℕ) → Leaves s xs → (i : ℕ) (leaf : List ℕ) → i < leaf_count s → length leaf ≡ s.node_size
      → leaf_at s q (put xs (i * s.node_size) leaf) ≡ cond (eqb i q) leaf (leaf_at s q xs)
  leaf_put xs L i leaf b e = go (eqb i q) refl
    where
      fit_in : i * s.node_size + length leaf ≤ length xs
      fit_in = omega (arith, fits s.node_size (leaf_count s) i b, L.long)

      go : (t : Bool) → eqb i q ≡ t → leaf_at s q (put xs (i * s.node_size) leaf) ≡ cond t leaf (leaf_at s q xs)
      go true f =
          ap (λ (a : ℕ). part (a * s.node_size) s.node_size (put xs (i * s.node_size) leaf)) (sym (eqb-true i q f))
          ∙ ap (λ (n : ℕ). part (i * s.node_size) n (put xs (i * s.node_size) leaf)) (sym e)
          ∙ part_put xs (i * s.node_size) leaf fit_in
      go false f = apart (dec_lt q i)
        where
          apart : Dec (q < i) → leaf_at s q (put xs (i * s.node_size) leaf) ≡ leaf_at s q xs
          apart (yes c) = part_put_before xs (i * s.node_size) leaf fit_in (q * s.node_size) s.node_size (fits s.node_size i q c)
          apart (no c) =
              let n = eqb-false i q f in
              let d : i < q = omega arith in
              part_put_behind xs (i * s.node_size) leaf fit_in (q * s.node_size) s.node_size (omega (arith, fits s.node_size q i d))

  records_last : (rs : List Record) (xs : List ℕ) → Fit s rs → Leaves s xs
      → leaf_at s q (enter_all s rs xs) ≡ last_for q (leaf_at s q xs) (changes_of s.node_size rs)
  unfolding enter_all changes_of last_for used_words
  records_last [] xs F L = refl
  records_last (r ∷ rs) xs F L =
      let leaf = leaf_of s.node_size r in
      let b = first_inside s valid r rs F in
      let e = leaf_fits s valid r F.sixes.0 in
      records_last rs (put xs (r.place * s.node_size) leaf) (rest_fits s valid r rs F)
      (put_leaves s valid xs L r.place leaf b e (words_left (prime_of s) leaf (used_words s.node_size rs) F.wordy))
      ∙ ap (λ (z : List ℕ). last_for q z (changes_of s.node_size rs)) (leaf_put xs L r.place leaf b e)

  -- a call, accepted or refused
  by_reply : (c : Call) (xs : List ℕ) (r : Reply) → book_reply s c ≡ r
      → leaf_at s q (after r xs (entered s c xs)) ≡ last_for q (leaf_at s q xs) (if_accepted r (brought s c))
      → leaf_at s q (book_after s c xs) ≡ last_for q (leaf_at s q xs) (if_accepted (book_reply s c) (brought s c))
  unfolding book_after
  by_reply c xs r e h = rw e h

  call_last : (c : Call) (xs : List ℕ)
      → (first_refusal (book_refusals s c) ≡ 0 → leaf_at s q (entered s c xs) ≡ last_for q (leaf_at s q xs) (brought s c))
      → leaf_at s q (book_after s c xs) ≡ last_for q (leaf_at s q xs) (if_accepted (book_reply s c) (brought s c))
  unfolding book_reply after if_accepted last_for
  call_last c xs f = go (first_refusal (book_refusals s c)) refl
    where
      go : (n : ℕ) → first_refusal (book_refusals s c) ≡ n
          → leaf_at s q (book_after s c xs) ≡ last_for q (leaf_at s q xs) (if_accepted (book_reply s c) (brought s c))
      go zero z = by_reply c xs (done (book_count s c ∷ [])) (reply_done (book_refusals s c) (book_count s c ∷ []) (book_numbered s c) z) (f z)
      go (suc n) z =
          by_reply c xs (refused (first_refusal (book_refusals s c))) (reply_refused (book_refusals s c) (book_count s c ∷ []) (λ w. absurd (omega arith))) refl

  replacement_last : (xs : List ℕ) → Leaves s xs → (i : ℕ) (leaf : List ℕ)
      → leaf_at s q (book_after s (replacement i leaf) xs) ≡ last_for q (leaf_at s q xs) (if_accepted (book_reply s (replacement i leaf)) (brought s (replacement i leaf)))
  unfolding entered brought last_for
  replacement_last xs L i leaf = call_last (replacement i leaf) xs (λ z. let g = good s i leaf z in leaf_put xs L i leaf g.inside g.long)

  push_last : (xs : List ℕ) → Leaves s xs → (rs : List Record) → SixWords rs
      → leaf_at s q (book_after s (push rs) xs) ≡ last_for q (leaf_at s q xs) (if_accepted (book_reply s (push rs)) (brought s (push rs)))
  unfolding entered brought
  push_last xs L rs sixes = call_last (push rs) xs (λ z. records_last rs xs (fit s rs sixes z) L)

  next : (c : Call) (cs : List Call) (xs : List ℕ)
      → leaf_at s q (book_after s c xs) ≡ last_for q (leaf_at s q xs) (if_accepted (book_reply s c) (brought s c))
      → leaf_at s q (book_leaves s cs (book_after s c xs)) ≡ last_for q (leaf_at s q (book_after s c xs)) (accepted s cs)
      → leaf_at s q (book_leaves s (c ∷ cs) xs) ≡ last_for q (leaf_at s q xs) (accepted s (c ∷ cs))
  unfolding book_leaves accepted
  next c cs xs one rest =
      rest
      ∙ ap (λ (z : List ℕ). last_for q z (accepted s cs)) one
      ∙ sym (last_append q (leaf_at s q xs) (if_accepted (book_reply s c) (brought s c)) (accepted s cs))

  each : (calls : List Call) (xs : List ℕ) → Typed calls → Leaves s xs
      → leaf_at s q (book_leaves s calls xs) ≡ last_for q (leaf_at s q xs) (accepted s calls)
  unfolding book_leaves accepted last_for
  each [] xs T L = refl
  each (replacement i leaf ∷ cs) xs T L =
      next (replacement i leaf) cs xs (replacement_last xs L i leaf)
      (each cs (book_after s (replacement i leaf) xs) T (replacement_leaves s valid xs L i leaf))
  each (push rs ∷ cs) xs T L =
      next (push rs) cs xs (push_last xs L rs T.0)
      (each cs (book_after s (push rs) xs) T.1 (push_leaves s valid xs L rs T.0))

-- k^h leaves of words, after any list of calls
pub book_leaves_lem : (s : ParameterSet) → first_refusal (set_refusals s) ≡ 0 → (calls : List Call) (xs : List ℕ) → Typed calls → Leaves s xs → Leaves s (book_leaves s calls xs)
unfolding book_leaves
book_leaves_lem s valid [] xs T L = L
book_leaves_lem s valid (replacement q leaf ∷ cs) xs T L =
    book_leaves_lem s valid cs (book_after s (replacement q leaf) xs) T (replacement_leaves s valid xs L q leaf)
book_leaves_lem s valid (push rs ∷ cs) xs T L =
    book_leaves_lem s valid cs (book_after s (push rs) xs) T.1 (push_leaves s valid xs L rs T.0)

pub latest : Latest
latest s leaves buffer e calls T =
    let B = begun s leaves buffer e in
    record {
      whole = (book_leaves_lem s B.set calls leaves T B.given).long;
      each = λ q inside. each s B.set q inside calls leaves T B.given;
    }
