-- A certificate that g is a primitive root modulo p: one test, which the checker computes. It is handed the prime factors of p - 1.
-- Nothing here has to be believed: what follows from a passed test is proved (PrimeField, `Certified`).
use Rattle.std.specs.Prelude.{Bool, true, ◌&&◌, not, List, [], ◌∷◌, ℕ, zero, suc, ◌*◌, ◌-◌, ◌/◌, ◌%◌, ◌^◌, ltb, eqb}

-- c * a ^ e modulo p by squaring, for an e of k binary digits: the power itself would not fit any memory
unfoldable pub power_by_squares : ℕ → ℕ → ℕ → ℕ → ℕ → ℕ
power_by_squares p zero a e c = c % p
power_by_squares p (suc k) a e c = power_by_squares p k (a * a % p) (e / 2) (c * a ^ (e % 2) % p)

-- a ^ e modulo p, for an e below 2 ^ 64
unfoldable pub computed_power : ℕ → ℕ → ℕ → ℕ
unfolding power_by_squares
computed_power p a e = power_by_squares p 64 a e 1

-- d divides q and is not q
unfoldable pub proper_divisor : ℕ → ℕ → Bool
proper_divisor q d = ltb d q && eqb (q % d) 0

-- none of 2 to n + 1 is a proper divisor of q
unfoldable pub no_divisor : ℕ → ℕ → Bool
unfolding proper_divisor
no_divisor q zero = true
no_divisor q (suc n) = not (proper_divisor q (suc (suc n))) && no_divisor q n

-- a prime below 257 * 257, by trial of 2 to 256
unfoldable pub small_prime : ℕ → Bool
unfolding no_divisor
small_prime q = ltb 1 q && ltb q 66049 && no_divisor q 255

unfoldable pub product : List ℕ → ℕ
product [] = 1
product (f ∷ fs) = f * product fs

-- each of the list is a prime f at which g to the power (p - 1) / f is not 1
unfoldable pub none_reaches : ℕ → ℕ → List ℕ → Bool
unfolding small_prime computed_power
none_reaches p g [] = true
none_reaches p g (f ∷ fs) = small_prime f && not (eqb (computed_power p g ((p - 1) / f)) 1) && none_reaches p g fs

-- p is above 3 and fits 64 bits; a power of the factors' product is a multiple of p - 1, so none is left out;
-- g to the power p - 1 is 1, and to no (p - 1) / f
unfoldable pub certifies : ℕ → ℕ → List ℕ → Bool
unfolding product computed_power none_reaches
certifies p g fs =
    ltb 3 p && ltb p (2 ^ 64) && eqb (product fs ^ 64 % (p - 1)) 0 && eqb (computed_power p g (p - 1)) 1 && none_reaches p g fs
