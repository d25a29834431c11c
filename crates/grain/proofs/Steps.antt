-- Steps of the register: how many bits there are, steps after steps, and the register by the bits that were pushed into it.
use mathlib.Core.Path.{◌≡◌, refl, sym, ap, ap₂, ◌∙◌}
use mathlib.Core.Bool.{true}
use mathlib.Core.List.{List, [], ◌∷◌, ◌++◌, append_assoc, append-nil}
use Prim.Native.Nat.{ℕ, zero, suc, ◌+◌, ◌-◌, ◌≤◌, ◌<◌}
use native.Mathlib.Nat.{mod-lt, zero-add, sub-zero, zero-sub, suc-sub-suc}
use native.Mathlib.Omega.{arith}
use lib.ListN.{length, get_or, drop, length-append, length-drop, get_or-append}
use lib.Seq.{drop-drop, drop-append-le, drop-append_seam, get_or-drop}
use Rattle.modular.specs.Arithmetic.{all_words}
use Rattle.modular.proofs.Words.{none_words, word_first, words_append, words_drop}
use Rattle.grain.specs.Register.{pushed, exclusive_or, new_bit, step, new_bits, after_steps}

pub new_bit-below : (r : List ℕ) → new_bit r < 2
unfolding new_bit exclusive_or
new_bit-below r = mod-lt _ (omega arith)

-- ---- new bits

pub length-new_bits : (n : ℕ) (r : List ℕ) → length (new_bits n r) ≡ n
unfolding new_bits
length-new_bits zero r = refl
length-new_bits (suc n) r = ap suc (length-new_bits n (step r))

pub new_bits-binary : (n : ℕ) (r : List ℕ) → all_words 2 (new_bits n r) ≡ true
unfolding new_bits
new_bits-binary zero r = none_words 2
new_bits-binary (suc n) r = word_first 2 (new_bit r) (new_bits n (step r)) (new_bit-below r) ∙ new_bits-binary n (step r)

-- those after the first n
pub drop-new_bits : (n m : ℕ) (r : List ℕ) → drop n (new_bits m r) ≡ new_bits (m - n) (after_steps n r)
unfolding new_bits after_steps
drop-new_bits zero m r = ap (λ (k : ℕ). new_bits k r) (sym (sub-zero m))
drop-new_bits (suc n) zero r = ap (λ (k : ℕ). new_bits k (after_steps n (step r))) (sym (zero-sub (suc n)))
drop-new_bits (suc n) (suc m) r = drop-new_bits n m (step r) ∙ ap (λ (k : ℕ). new_bits k (after_steps n (step r))) (sym (suc-sub-suc m n))

pub new_bits-add : (n m : ℕ) (r : List ℕ) → new_bits (n + m) r ≡ new_bits n r ++ new_bits m (after_steps n r)
unfolding new_bits after_steps
new_bits-add zero m r = ap (λ (k : ℕ). new_bits k r) (zero-add m)
new_bits-add (suc n) m r =
    let e : suc n + m ≡ suc (n + m) = omega arith in
    ap (λ (k : ℕ). new_bits k r) e ∙ ap (λ (xs : List ℕ). new_bit r ∷ xs) (new_bits-add n m (step r))

pub after_steps-add : (n m : ℕ) (r : List ℕ) → after_steps (n + m) r ≡ after_steps m (after_steps n r)
unfolding after_steps
after_steps-add zero m r = ap (λ (k : ℕ). after_steps k r) (zero-add m)
after_steps-add (suc n) m r =
    let e : suc n + m ≡ suc (n + m) = omega arith in
    ap (λ (k : ℕ). after_steps k r) e ∙ after_steps-add n m (step r)

-- the new bit that has i before it
pub new_bits-at : (n i : ℕ) (r : List ℕ) → i < n → get_or (new_bits n r) i 0 ≡ new_bit (after_steps i r)
unfolding new_bits after_steps
new_bits-at zero i r h = absurd (omega arith)
new_bits-at (suc n) zero r h = refl
new_bits-at (suc n) (suc i) r h = new_bits-at n i (step r) (omega arith)

-- ---- bits pushed into a register

pub pushed_none : (r : List ℕ) → pushed r [] ≡ r
unfolding pushed
pushed_none r = append-nil r

pub pushed_pushed : (r xs ys : List ℕ) → pushed (pushed r xs) ys ≡ pushed r (xs ++ ys)
unfolding pushed
pushed_pushed r xs ys =
    let fits : length xs ≤ length (r ++ xs) = omega (arith, length-append r xs) in
    let total : length xs + length ys ≡ length (xs ++ ys) = sym (length-append xs ys) in
    ap (drop (length ys)) (sym (drop-append-le (length xs) (r ++ xs) ys fits))
    ∙ drop-drop (length ys) (length xs) ((r ++ xs) ++ ys)
    ∙ ap₂ (λ (n : ℕ) (zs : List ℕ). drop n zs) total (append_assoc r xs ys)

-- as many bits as the register has are all that is left
pub pushed_all : (r xs : List ℕ) → length xs ≡ length r → pushed r xs ≡ xs
unfolding pushed
pushed_all r xs e = ap (λ (n : ℕ). drop n (r ++ xs)) e ∙ drop-append_seam r xs

pub length-pushed : (r xs : List ℕ) → length (pushed r xs) ≡ length r
unfolding pushed
length-pushed r xs = omega (arith, length-drop (length xs) (r ++ xs), length-append r xs)

pub pushed_binary : (r xs : List ℕ) → all_words 2 r ≡ true → all_words 2 xs ≡ true → all_words 2 (pushed r xs) ≡ true
unfolding pushed
pushed_binary r xs h g = words_drop 2 (length xs) (r ++ xs) (words_append 2 r xs h g)

-- a bit that was in the register before
pub pushed_at : (r xs : List ℕ) (i : ℕ) → length xs + i < length r → get_or (pushed r xs) i 0 ≡ get_or r (length xs + i) 0
unfolding pushed
pushed_at r xs i h = get_or-drop (length xs) (r ++ xs) i 0 ∙ get_or-append r xs 0 (length xs + i) h

-- ---- steps push their new bits

step_pushes : (r : List ℕ) → 0 < length r → step r ≡ pushed r (new_bit r ∷ [])
unfolding step pushed
step_pushes r h = sym (drop-append-le 1 r (new_bit r ∷ []) (omega arith))

pub after_steps-pushes : (n : ℕ) (r : List ℕ) → 0 < length r → after_steps n r ≡ pushed r (new_bits n r)
unfolding new_bits after_steps
after_steps-pushes zero r h = sym (pushed_none r)
after_steps-pushes (suc n) r h =
    let e = step_pushes r h in
    let some : 0 < length (step r) = omega (arith, ap length e, length-pushed r (new_bit r ∷ [])) in
    after_steps-pushes n (step r) some
    ∙ ap (λ (s : List ℕ). pushed s (new_bits n (step r))) e
    ∙ pushed_pushed r (new_bit r ∷ []) (new_bits n (step r))
