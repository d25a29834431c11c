-- The powers of the arity up to k^h are at most k^h, and the nodes above the leaves by one division.
use mathlib.Core.Path.{◌≡◌, ap, ◌∙◌}
use Prim.Native.Nat.{ℕ, suc, ◌+◌, ◌*◌, ◌-◌, ◌/◌, ◌^◌, ◌≤◌, ◌<◌}
use native.Mathlib.Nat.{pow-suc, pow-le-pow_right, mul-div_cancel_left, mul-le-mul, mul-le-mul_right, suc-mul}
use native.Mathlib.Numerals.{add-one}
use native.Mathlib.Omega.{arith}
use Rattle.merkle.specs.Levels.{Shape, Regular}
use Rattle.merkle.specs.Numbering.{inner}
use Rattle.merkle.proofs.Numbering.{in_rows}

pub power_next : (k i : ℕ) → k ^ (i + 1) ≡ k ^ i * k
power_next k i = rw (add-one i) (pow-suc k i)

pub power_fits : (k i h : ℕ) → 1 ≤ k → i < h → k ^ h ≤ 4294967296 → k ^ i * k ≤ 4294967296
power_fits k i h one b f = omega (arith, power_next k i, pow-le-pow_right one {i = i + 1} {j = h} (omega arith))

pub power_some : (k h : ℕ) → 1 ≤ k → 1 ≤ k ^ h
power_some k h one = omega (arith, native.Mathlib.Nat.pow-zero k, pow-le-pow_right one {i = 0} {j = h} (omega arith))

-- a part lies within h of its size
pub within : (n : ℕ) {j h : ℕ} → j < h → j * n + n ≤ h * n
within n {j} {h} l = omega (arith, suc-mul j n, mul-le-mul_right n l)

module _ (S : Shape) (G : Regular S) where
  open S use {arity as k, node_size as l}

  -- (k - 1) × inner = k^h - 1
  pub inner_quotient : (h : ℕ) → (k ^ h - 1) / (k - 1) ≡ inner S h
  inner_quotient h =
      let r : ℕ = k - 1 in
      let s : k ≡ suc r = omega (arith, G.several) in
      let e : k * inner S h ≡ r * inner S h + inner S h = ap (λ (a : ℕ). a * inner S h) s ∙ suc-mul r (inner S h) in
      let f : k ^ h - 1 ≡ r * inner S h = omega (arith, in_rows S G h) in
      ap (λ (a : ℕ). a / r) f ∙ mul-div_cancel_left (inner S h) {n = r} (omega (arith, G.several))

  -- fewer nodes stand above the leaves than there are leaves
  pub inner_few : (h : ℕ) → inner S h < k ^ h
  inner_few h = omega (arith, in_rows S G h, mul-le-mul_right (inner S h) G.several)

  pub size_small : (h : ℕ) → k ^ h ≤ 4294967296 → l ≤ 6 → (k ^ h + inner S h) * l ≤ 51539607552
  size_small h f b = mul-le-mul {n₁ = k ^ h + inner S h} {m₁ = l} {n₂ = 8589934592} {m₂ = 6} (omega (arith, inner_few h)) b
