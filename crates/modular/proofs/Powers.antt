-- Powers of natural numbers, and that the power by squaring is the power.
use mathlib.Core.Path.{◌≡◌, sym, ap, ◌∙◌}
use Prim.Native.Nat.{ℕ, zero, suc, ◌+◌, ◌*◌, ◌/◌, ◌%◌, ◌^◌, ◌<◌}
use native.Mathlib.Nat.{add-zero, add-suc, mul-zero, mul-one, one-mul, mul-suc, mul_assoc, mul_comm, pow-zero, pow-suc, div-add-mod}
use native.Mathlib.Omega.{arith}
use Rattle.modular.specs.Arithmetic.{pow}
use Rattle.modular.specs.Congruence.{◌≈⟨◌⟩◌}
use Rattle.modular.specs.Certificate.{power_by_squares, computed_power}
use Rattle.modular.proofs.Congruence.{eq≈, trans≈, mod≈, mul≈, pow≈}

pub pow-add : (a m n : ℕ) → a ^ (m + n) ≡ a ^ m * a ^ n
pow-add a m zero = ap (λ (x : ℕ). a ^ x) (add-zero m) ∙ sym (mul-one (a ^ m)) ∙ ap (λ (x : ℕ). a ^ m * x) (sym (pow-zero a))
pow-add a m (suc n) =
    ap (λ (x : ℕ). a ^ x) (add-suc m n) ∙ pow-suc a (m + n) ∙ ap (λ (x : ℕ). x * a) (pow-add a m n)
    ∙ mul_assoc (a ^ m) (a ^ n) a ∙ ap (λ (x : ℕ). a ^ m * x) (sym (pow-suc a n))

pub pow-mul : (a m n : ℕ) → a ^ (m * n) ≡ (a ^ m) ^ n
pow-mul a m zero = ap (λ (x : ℕ). a ^ x) (mul-zero m) ∙ pow-zero a ∙ sym (pow-zero (a ^ m))
pow-mul a m (suc n) =
    ap (λ (x : ℕ). a ^ x) (mul-suc m n) ∙ pow-add a (m * n) m ∙ ap (λ (x : ℕ). x * a ^ m) (pow-mul a m n)
    ∙ sym (pow-suc (a ^ m) n)

pub one_pow : (n : ℕ) → 1 ^ n ≡ 1
one_pow zero = pow-zero 1
one_pow (suc n) = pow-suc 1 n ∙ mul-one (1 ^ n) ∙ one_pow n

pub pow-one : (a : ℕ) → a ^ 1 ≡ a
pow-one a = pow-suc a 0 ∙ ap (λ (x : ℕ). x * a) (pow-zero a) ∙ one-mul a

pub pow-two : (a : ℕ) → a ^ 2 ≡ a * a
pow-two a = pow-suc a 1 ∙ ap (λ (x : ℕ). x * a) (pow-one a)

-- an even power is a power of the square, and an odd one has a factor more
pub pow-half : (a e : ℕ) → a ^ (e % 2) * (a * a) ^ (e / 2) ≡ a ^ e
pow-half a e =
    ap (λ (x : ℕ). a ^ (e % 2) * x ^ (e / 2)) (sym (pow-two a))
    ∙ ap (λ (x : ℕ). a ^ (e % 2) * x) (sym (pow-mul a 2 (e / 2)))
    ∙ mul_comm (a ^ (e % 2)) (a ^ (2 * (e / 2))) ∙ sym (pow-add a (2 * (e / 2)) (e % 2))
    ∙ ap (λ (x : ℕ). a ^ x) (div-add-mod e 2)

by_squares : (p k a e c : ℕ) → e < 2 ^ k → power_by_squares p k a e c ≈⟨ p ⟩ c * a ^ e
unfolding power_by_squares
by_squares p zero a e c h =
    let z : e ≡ 0 = omega (arith, rw pow-zero at h) in
    trans≈ (mod≈ c) (eq≈ (sym (ap (λ (x : ℕ). c * a ^ x) z ∙ ap (λ (x : ℕ). c * x) (pow-zero a) ∙ mul-one c)))
by_squares p (suc k) a e c h =
    trans≈ (by_squares p k (a * a % p) (e / 2) (c * a ^ (e % 2) % p) (omega (arith, rw pow-suc at h)))
    (trans≈ (mul≈ (mod≈ (c * a ^ (e % 2))) (pow≈ (mod≈ (a * a)) (e / 2)))
    (eq≈ (mul_assoc c (a ^ (e % 2)) ((a * a) ^ (e / 2)) ∙ ap (λ (x : ℕ). c * x) (pow-half a e))))

below : (p k a e c : ℕ) → power_by_squares p k a e c % p ≡ power_by_squares p k a e c
unfolding power_by_squares
below p zero a e c = native.Mathlib.Nat.mod-mod c p
below p (suc k) a e c = below p k (a * a % p) (e / 2) (c * a ^ (e % 2) % p)

-- The power that the checker computes is the power.
pub computed_power_lem : (p a e : ℕ) → e < 2 ^ 64 → computed_power p a e ≡ pow p a e
unfolding pow computed_power
computed_power_lem p a e h =
    sym (below p 64 a e 1) ∙ (by_squares p 64 a e 1 h).same ∙ ap (λ (x : ℕ). x % p) (one-mul (a ^ e))
