-- Sums of lists, one number more at a time.
use mathlib.Core.Path.{◌≡◌, refl, sym, ap, ◌∙◌}
use mathlib.Core.List.{List, [], ◌∷◌}
use Prim.Native.Nat.{ℕ, zero, suc, ◌+◌, ◌%◌}
use native.Mathlib.Nat.{add_assoc}
use native.Mathlib.Numerals.{add-one}
use native.Mathlib.Omega.{arith}
use lib.ListN.{get_or, take}
use Rattle.modular.specs.Arithmetic.{add}
use Rattle.modular.proofs.Congruence.{refl≈, add≈, mod≈}
use Rattle.poseidon2.specs.Layers.{sum}

sum-suc : (i : ℕ) (xs : List ℕ) → sum (take (suc i) xs) ≡ sum (take i xs) + get_or xs i 0
unfolding sum
sum-suc zero [] = refl
sum-suc (suc i) [] = refl
sum-suc zero (x ∷ xs) = omega arith
sum-suc (suc i) (x ∷ xs) = ap (λ (n : ℕ). x + n) (sum-suc i xs) ∙ sym (add_assoc x (sum (take i xs)) (get_or xs i 0))

-- a start and the first i + 1 numbers, modulo p
pub sum_more : (p start i total : ℕ) (xs : List ℕ) → total ≡ (start + sum (take i xs)) % p
    → add p total (get_or xs i 0) ≡ (start + sum (take (i + 1) xs)) % p
unfolding add
sum_more p start i total xs e =
    ap (λ (n : ℕ). (n + get_or xs i 0) % p) e
    ∙ (add≈ (mod≈ {p = p} (start + sum (take i xs))) (refl≈ {a = get_or xs i 0})).same
    ∙ ap (λ (n : ℕ). n % p) (add_assoc start (sum (take i xs)) (get_or xs i 0) ∙ ap (λ (n : ℕ). start + n) (sym (sum-suc i xs) ∙ ap (λ (n : ℕ). sum (take n xs)) (sym (add-one i))))
