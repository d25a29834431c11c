-- A list whose first n numbers are replaced, each by its place and itself: what a loop over the places has done after n turns.
use mathlib.Core.Path.{◌≡◌, refl, sym, ap, ◌∙◌}
use mathlib.Core.List.{List, [], ◌∷◌}
use Prim.Native.Nat.{ℕ, zero, suc, ◌+◌, ◌%◌, ◌<◌, ◌≤◌}
use native.Mathlib.Numerals.{add-one}
use native.Mathlib.Omega.{arith}
use lib.ListN.{length, get_or, set}
use Rattle.modular.specs.Arithmetic.{sub, mul}
use Rattle.poseidon2.specs.Inverse.{multiples_less}
use Rattle.poseidon2.specs.Residues.{residues}
use Rattle.poseidon2.proofs.Words.{cons_eq, residues_length}
use Rattle.inversion.proofs.Residues.{set-residues, get_d_residues}

unfoldable pub done : (ℕ → ℕ → ℕ) → ℕ → List ℕ → List ℕ
done f zero xs = xs
done f (suc n) [] = []
done f (suc n) (x ∷ xs) = f 0 x ∷ done (λ k. f (suc k)) n xs

pub done_none : (f : ℕ → ℕ → ℕ) (xs : List ℕ) → xs ≡ done f 0 xs
unfolding done
done_none f xs = refl

-- the places from n on are as they were
pub done_ahead : (f : ℕ → ℕ → ℕ) (n : ℕ) (xs : List ℕ) (k : ℕ) → n ≤ k → get_or (done f n xs) k 0 ≡ get_or xs k 0
unfolding done
done_ahead f zero xs k h = refl
done_ahead f (suc n) [] k h = refl
done_ahead f (suc n) (x ∷ xs) zero h = absurd (omega arith)
done_ahead f (suc n) (x ∷ xs) (suc k) h = done_ahead (λ k. f (suc k)) n xs k (omega arith)

done_step : (f : ℕ → ℕ → ℕ) (n : ℕ) (xs : List ℕ) → n < length xs → set (done f n xs) n (f n (get_or xs n 0)) ≡ done f (suc n) xs
unfolding done
done_step f n [] h = absurd (omega arith)
done_step f zero (x ∷ xs) h = refl
done_step f (suc n) (x ∷ xs) h = cons_eq refl (done_step (λ k. f (suc k)) n xs (omega arith))

-- one turn more
pub done_more : (f : ℕ → ℕ → ℕ) (i : ℕ) (xs st : List ℕ) (r : ℕ) → st ≡ done f i xs → i < length xs → r ≡ f i (get_or st i 0) → set st i r ≡ done f (i + 1) xs
done_more f i xs st r e h g =
    let here : get_or st i 0 ≡ get_or xs i 0 = ap (λ (l : List ℕ). get_or l i 0) e ∙ done_ahead f i xs i (omega arith) in
    rw (e, g ∙ ap (f i) here, add-one i) (done_step f i xs h)

-- the same where the numbers stand for words
pub lazy_more : (p : ℕ) (f : ℕ → ℕ → ℕ) (i : ℕ) (xs st : List ℕ) (r : ℕ) → residues p st ≡ done f i (residues p xs) → i < length xs → r % p ≡ f i (get_or st i 0 % p)
    → residues p (set st i r) ≡ done f (i + 1) (residues p xs)
lazy_more p f i xs st r e h g =
    set-residues p st i r
    ∙ done_more f i (residues p xs) (residues p st) (r % p) e (omega (arith, residues_length p xs)) (g ∙ ap (f i) (sym (get_d_residues p st i)))

-- all the places
pub done_multiples : (p s : ℕ) (es ys : List ℕ) → done (λ k y. mul p (get_or es k 0) (sub p y s)) (length ys) ys ≡ multiples_less p s es ys
unfolding done multiples_less
done_multiples p s es [] = refl
done_multiples p s [] (y ∷ ys) = cons_eq refl (done_multiples p s [] ys)
done_multiples p s (e ∷ es) (y ∷ ys) = cons_eq refl (done_multiples p s es ys)

pub done_residues : (p : ℕ) (ys : List ℕ) → done (λ k y. y % p) (length ys) ys ≡ residues p ys
unfolding done residues
done_residues p [] = refl
done_residues p (y ∷ ys) = cons_eq refl (done_residues p ys)
