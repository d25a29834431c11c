-- Absorption as code does it, a message block added one word after another and the blocks in turn; and that the leaf is words.
use mathlib.Core.Path.{◌≡◌, refl, sym, ap, ◌∙◌}
use mathlib.Core.List.{List, [], ◌∷◌, ◌++◌, append_assoc}
use Prim.Native.Nat.{ℕ, zero, suc, ◌+◌, ◌*◌, ◌-◌, ◌/◌, ◌≤◌, ◌<◌}
use native.Mathlib.Nat.{add-zero, mul-zero, mul-suc}
use native.Mathlib.Omega.{arith}
use lib.ListN.{length, get_or, take, drop, set, replicate, length-append, length-drop, length-replicate}
use lib.Seq.{drop-cons, drop-drop, take-suc, length-take-le, set_at, get_or_at, get_or-drop}
use Rattle.modular.specs.Arithmetic.{add}
use Rattle.poseidon2.specs.Layers.{add_lists}
use Rattle.poseidon2.specs.Statements.{State}
use Rattle.poseidon2.proofs.Words.{add_lists-length, words_take}
use Rattle.blocks.proofs.Lists.{add_lists-append}
use Rattle.blobs.specs.Absorption.{add_block, absorb, file_leaf}
use Rattle.blobs.specs.Blob.{file_words}
use Rattle.blobs.proofs.FileWords.{zero_beyond}

-- ---- one word more of a message block

module _ (p : ℕ) (block state : List ℕ) where
  pub none_added : add_block p 0 block state ≡ state
  unfolding add_block add_lists
  none_added = refl

  front_length : (i : ℕ) → i ≤ length state → length (add_lists p (take i state) block) ≡ i
  front_length i h = add_lists-length p (take i state) block ∙ length-take-le i state h

  pub added_length : (i : ℕ) → i ≤ length state → length (add_block p i block state) ≡ length state
  unfolding add_block
  added_length i h = omega (arith, length-append (add_lists p (take i state) block) (drop i state), front_length i h, length-drop i state)

  -- the word at a place that has not been reached is the state's
  pub next_word : (i : ℕ) → i < length state → get_or (add_block p i block state) i 0 ≡ get_or state i 0
  unfolding add_block
  next_word i h =
      ap (λ (xs : List ℕ). get_or (add_lists p (take i state) block ++ xs) i 0) (drop-cons state i 0 h)
      ∙ get_or_at (add_lists p (take i state) block) (get_or state i 0) (drop (suc i) state) 0 i (front_length i (omega arith))

  last_sum : (i : ℕ) → add_lists p (get_or state i 0 ∷ []) (drop i block) ≡ add p (get_or state i 0) (get_or block i 0) ∷ []
  unfolding add_lists
  last_sum i =
      let here : get_or (drop i block) 0 0 ≡ get_or block i 0 = get_or-drop i block 0 0 ∙ ap (λ (k : ℕ). get_or block k 0) (add-zero i) in
      ap (λ (b : ℕ). add p (get_or state i 0) b ∷ []) here

  longer : (i : ℕ) → i < length state → add_lists p (take i state) block ++ (add p (get_or state i 0) (get_or block i 0) ∷ []) ≡ add_lists p (take (suc i) state) block
  longer i h =
      ap (λ (xs : List ℕ). add_lists p (take i state) block ++ xs) (sym (last_sum i) ∙ ap (λ (k : ℕ). add_lists p (get_or state i 0 ∷ []) (drop k block)) (sym (length-take-le i state (omega arith))))
      ∙ add_lists-append p (take i state) (get_or state i 0 ∷ []) block
      ∙ ap (λ (xs : List ℕ). add_lists p xs block) (sym (take-suc state i 0 h))

  pub one_more_lem : (i : ℕ) → i < length state → set (add_block p i block state) i (add p (get_or state i 0) (get_or block i 0)) ≡ add_block p (suc i) block state
  unfolding add_block
  one_more_lem i h =
      let sum : ℕ = add p (get_or state i 0) (get_or block i 0) in
      ap (λ (xs : List ℕ). set (add_lists p (take i state) block ++ xs) i sum) (drop-cons state i 0 h)
      ∙ set_at (add_lists p (take i state) block) (get_or state i 0) (drop (suc i) state) sum i (front_length i (omega arith))
      ∙ sym (append_assoc (add_lists p (take i state) block) (sum ∷ []) (drop (suc i) state))
      ∙ ap (λ (xs : List ℕ). xs ++ drop (suc i) state) (longer i h)

-- ---- one message block more

module _ (p rate : ℕ) (f : List ℕ → List ℕ) where
  pub none_absorbed : (words state : List ℕ) → absorb p rate f 0 words state ≡ state
  unfolding absorb
  none_absorbed words state = refl

  pub one_absorbed : (n : ℕ) (words state : List ℕ)
      → absorb p rate f (suc n) words state ≡ f (add_block p rate (take rate (drop (rate * n) words)) (absorb p rate f n words state))
  unfolding absorb
  one_absorbed zero words state =
      ap (λ (k : ℕ). f (add_block p rate (take rate (drop k words)) state)) (sym (mul-zero rate))
  one_absorbed (suc n) words state =
      let next : rate + rate * n ≡ rate * suc n = omega (arith, mul-suc rate n) in
      let later : drop (rate * n) (drop rate words) ≡ drop (rate * suc n) words = drop-drop (rate * n) rate words ∙ ap (λ (k : ℕ). drop k words) next in
      one_absorbed n (drop rate words) (f (add_block p rate (take rate words) state))
      ∙ ap (λ (xs : List ℕ). f (add_block p rate (take rate xs) (absorb p rate f n (drop rate words) (f (add_block p rate (take rate words) state))))) later

-- ---- the leaf is words

-- the state at the beginning
pub zero_state : {p : ℕ} → 0 < p → (t : ℕ) → State p t (replicate t 0)
zero_state pos t = record { width = length-replicate {A = ℕ} t 0; words = record { at = λ i. omega (arith, pos, zero_beyond t i) } }

module _ {p : ℕ} (pos : 0 < p) (t : ℕ) (f : List ℕ → List ℕ) (states : (xs : List ℕ) → length xs ≡ t → State p t (f xs)) where
  -- each block leaves a state
  absorb_state : (rate n : ℕ) (words state : List ℕ) → rate ≤ t → State p t state → State p t (absorb p rate f n words state)
  unfolding absorb
  absorb_state rate zero words state r S = S
  absorb_state rate (suc n) words state r S =
      absorb_state rate n (drop rate words) (f (add_block p rate (take rate words) state)) r
      (states (add_block p rate (take rate words) state) (added_length p (take rate words) state rate (omega (arith, S.width)) ∙ S.width))

  pub leaf_state : (size l : ℕ) (contents : List ℕ) → l ≤ t → State p l (file_leaf p size t l f contents)
  unfolding file_leaf
  leaf_state size l contents fits =
      let words : List ℕ = file_words size (t - l) contents in
      let last : List ℕ = absorb p (t - l) f (length words / (t - l)) words (replicate t 0) in
      let S : State p t last = absorb_state (t - l) (length words / (t - l)) words (replicate t 0) (omega arith) (zero_state pos t) in
      record { width = length-take-le l last (omega (arith, S.width)); words = words_take pos l last S.words }
