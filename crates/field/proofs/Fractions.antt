-- Words by 2 and by 4: so many p are added that the sum can be divided.
use Rattle.std.proofs.Common.{◌≡◌, ℕ, zero, suc, ◌+◌, ◌-◌, ◌*◌, ◌/◌, ◌%◌, ◌<◌, arith}
use Rattle.modular.specs.Congruence.{◌≈⟨◌⟩◌}
use Rattle.modular.specs.Goldilocks.{p}
use Rattle.modular.proofs.Congruence.{eq≈, trans≈, multiple≈}

half_word : (q m : ℕ) → m < 2 → 2 * q + m < p → q + m * 9223372034707292161 < p
half_word q zero h k = omega arith
half_word q (suc zero) h k = omega arith
half_word q (suc (suc m)) h k = absurd (omega arith)

half_exact : (q m : ℕ) → 2 * (q + m * 9223372034707292161) ≡ 2 * q + m + p * m
half_exact q m = omega arith

pub halved : (x : ℕ) → x < p → (x / 2 + x % 2 * 9223372034707292161 < p) × (2 * (x / 2 + x % 2 * 9223372034707292161) ≈⟨ p ⟩ x)
halved x h =
    let e : 2 * (x / 2) + x % 2 ≡ x = omega arith in
    (half_word (x / 2) (x % 2) (omega arith) (omega arith), trans≈ (eq≈ (half_exact (x / 2) (x % 2))) (trans≈ (multiple≈ (2 * (x / 2) + x % 2) (x % 2)) (eq≈ e)))

-- what is wanting to a multiple of 4
abbrev pub wanting : ℕ → ℕ
wanting x = (4 - x % 4) % 4

quarter_word : (x q m : ℕ) → m < 4 → 4 * q ≡ x + m → x < p → q + m * 4611686017353646080 < p
quarter_word x q zero h e k = omega arith
quarter_word x q (suc zero) h e k = omega arith
quarter_word x q (suc (suc zero)) h e k = omega arith
quarter_word x q (suc (suc (suc zero))) h e k = omega arith
quarter_word x q (suc (suc (suc (suc m)))) h e k = absurd (omega arith)

quarter_exact : (x q m : ℕ) → 4 * q ≡ x + m → 4 * (q + m * 4611686017353646080) ≡ x + p * m
quarter_exact x q m e = omega arith

pub quartered : (x : ℕ) → x < p → ((x + wanting x) / 4 + wanting x * 4611686017353646080 < p) × (4 * ((x + wanting x) / 4 + wanting x * 4611686017353646080) ≈⟨ p ⟩ x)
quartered x h =
    let e : 4 * ((x + wanting x) / 4) ≡ x + wanting x = omega arith in
    (quarter_word x ((x + wanting x) / 4) (wanting x) (omega arith) e h, trans≈ (eq≈ (quarter_exact x ((x + wanting x) / 4) (wanting x) e)) (multiple≈ x (wanting x)))
