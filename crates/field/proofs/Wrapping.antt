-- Sums and differences of 64 bits that wrap, and their correction by 2^32 - 1: 2^64 is p + 2^32 - 1.
use Rattle.std.proofs.Common.{◌≡◌, ℕ, ◌+◌, ◌-◌, ◌*◌, ◌/◌, ◌%◌, ◌<◌, ◌≤◌, ◌⊎◌, sym, ap, ◌∙◌, inl, inr, lt_of_le_of_lt, mod-lt, mod-eq_of_lt, div-lt_iff_lt-mul, mul-le-mul, arith, lit<}
use Rattle.modular.specs.Congruence.{◌≈⟨◌⟩◌}
use Rattle.modular.specs.Goldilocks.{p}
use Rattle.modular.proofs.Congruence.{eq≈, sym≈, trans≈, multiple≈}
use Rattle.modular.proofs.ProductHalves.{W, H}

-- 2 ^ 64 modulo p
abbrev pub ε : ℕ
ε = 4294967295

-- a number with some p's more is congruent
pub less≈ : (n r q : ℕ) → n ≡ r + p * q → r ≈⟨ p ⟩ n
less≈ n r q e = sym≈ (trans≈ (eq≈ e) (multiple≈ r q))

-- and where it is a word it is the remainder
pub rest_is : (n r q : ℕ) → r < p → n ≡ r + p * q → r ≡ n % p
rest_is n r q h e = sym (mod-eq_of_lt h) ∙ (less≈ n r q e).same

-- a sum that wraps lacks 2 ^ 64: with 2 ^ 32 - 1 more it lacks p
pub carried : (a b s r : ℕ) → a < W → b ≤ p → s ≡ (a + b) % W → s < b → r ≡ (s + ε) % W → a + b ≡ r + p
carried a b s r ha hb es l er = omega arith

-- one that does not wrap is as it is
pub uncarried : (a b s : ℕ) → a < W → b ≤ p → s ≡ (a + b) % W → b ≤ s → a + b ≡ s
uncarried a b s ha hb es l = omega arith

-- what a corrected sum is congruent to
pub carried≈ : (a b s r : ℕ) → a < W → b ≤ p → s ≡ (a + b) % W → s < b → r ≡ (s + ε) % W → r ≈⟨ p ⟩ a + b
carried≈ a b s r ha hb es l er = less≈ (a + b) r 1 (omega (arith, carried a b s r ha hb es l er))

pub uncarried≈ : (a b s : ℕ) → a < W → b ≤ p → s ≡ (a + b) % W → b ≤ s → s ≈⟨ p ⟩ a + b
uncarried≈ a b s ha hb es l = eq≈ (sym (uncarried a b s ha hb es l))

-- a difference of words, by its definition
pub difference_borrowed : (a b s : ℕ) → a < b → b < p → s < W → (s + b) % W ≡ a → s - ε ≡ (a + (p - b % p)) % p
difference_borrowed a b s l hb hs es =
    let m : b % p ≡ b = mod-eq_of_lt hb in
    rest_is (a + (p - b % p)) (s - ε) 0 (omega arith) (omega arith)

pub difference_unborrowed : (a b s : ℕ) → b ≤ a → a < p → b < p → s < W → (s + b) % W ≡ a → s ≡ (a + (p - b % p)) % p
difference_unborrowed a b s l ha hb hs es =
    let m : b % p ≡ b = mod-eq_of_lt hb in
    rest_is (a + (p - b % p)) s 1 (omega arith) (omega arith)

-- what a corrected difference is congruent to
pub borrowed≈ : (a b s r : ℕ) → a < b → b < p → s < W → (s + b) % W ≡ a → r < W → (r + ε) % W ≡ s → r ≈⟨ p ⟩ a + (p - b)
borrowed≈ a b s r l hb hs es hr er = eq≈ (omega arith)

pub unborrowed≈ : (a b s : ℕ) → b ≤ a → b < p → s < W → (s + b) % W ≡ a → s ≈⟨ p ⟩ a + (p - b)
unborrowed≈ a b s l hb hs es = less≈ (a + (p - b)) s 1 (omega arith)

-- The low word less the top half: as it is, or with p more.
abbrev pub Rest : (high low rest : ℕ) → Type 0
Rest high low rest = (rest + high / H ≡ low) ⊎ ((0 < high / H) × (rest + high / H ≡ low + p))

one_less : (n r q : ℕ) → 0 < q → n + p ≡ r + p * q → n ≡ r + p * (q - 1)
one_less n r q h e = omega arith

-- 2 ^ 64 is p + ε, and 2 ^ 96 is p * (2 ^ 32 + 1) - 1: so the top half is taken off, and the other times ε added
pub reduced : (high low rest : ℕ) → Rest high low rest → rest + high % H * ε ≈⟨ p ⟩ high * W + low
reduced high low rest (inl e) = less≈ (high * W + low) (rest + high % H * ε) (high / H * 4294967297 + high % H) (omega arith)
reduced high low rest (inr e) =
    less≈ (high * W + low) (rest + high % H * ε) (high / H * 4294967297 + high % H - 1)
    (one_less (high * W + low) (rest + high % H * ε) (high / H * 4294967297 + high % H) (omega arith) (omega arith))

-- and so by a difference modulo p
pub taken_off : (high low : ℕ) → high / H < p → low + (p - high / H) + high % H * ε ≈⟨ p ⟩ high * W + low
taken_off high low h =
    trans≈ (reduced high (low + p) (low + (p - high / H)) (inl (omega arith)))
    (sym≈ (less≈ (high * W + (low + p)) (high * W + low) 1 (omega arith)))

-- the top half of a number of 64 bits is a word, and so is the other times ε
pub top_word : (high : ℕ) → high < W → high / H < p
top_word high h = omega arith

pub middle_word : (high : ℕ) → high % H * ε < p
middle_word high = omega arith

-- high * 2 ^ 32 by the high's own halves
pub half_fits : (high : ℕ) → high % H * H < W
half_fits high = omega arith

pub small_fits : (high low : ℕ) → high ≤ 1099511627775 → low ≤ 1099511627775 → low + high / H * ε ≤ p
small_fits high low h k = omega arith

pub joined : (high low : ℕ) → high % H * H + (low + high / H * ε) ≈⟨ p ⟩ high * H + low
joined high low = less≈ (high * H + low) (high % H * H + (low + high / H * ε)) (high / H) (omega arith)

pub folded : (high low : ℕ) → low + high * ε ≈⟨ p ⟩ high * W + low
folded high low = less≈ (high * W + low) (low + high * ε) high (omega arith)

-- A product's two words, and a number more.
pub two_words : (n high low : ℕ) → high ≡ n / W → low ≡ n % W → high * W + low ≡ n
two_words n high low e f = omega arith

product_fits : (a b : ℕ) → a < W → b < W → a * b / W < 18446744073709551615
product_fits a b h k =
    (div-lt_iff_lt-mul {k = W} (lit< tt)).1
    (lt_of_le_of_lt (mul-le-mul {n₁ = a} {m₁ = b} {n₂ = 18446744073709551615} {m₂ = 18446744073709551615} (omega arith) (omega arith)) (lit< tt))

wraps : (low c s : ℕ) → low < W → c < W → s ≡ (low + c) % W → s < c → low + c ≡ s + W
wraps low c s hl hc es l = omega arith

stays : (low c s : ℕ) → low < W → c < W → s ≡ (low + c) % W → c ≤ s → low + c ≡ s
stays low c s hl hc es l = omega arith

one_up : (high top : ℕ) → high < 18446744073709551615 → top ≡ (high + 1) % W → top ≡ high + 1
one_up high top h e = omega arith

raised : (n high low c s : ℕ) → high * W + low ≡ n → low + c ≡ s + W → (high + 1) * W + s ≡ c + n
raised n high low c s e f = omega arith

kept : (n high low c s : ℕ) → high * W + low ≡ n → low + c ≡ s → high * W + s ≡ c + n
kept n high low c s e f = omega arith

module _ (a b c high low s : ℕ) (ha : a < W) (hb : b < W) (hc : c < W) (eh : high ≡ a * b / W) (el : low ≡ a * b % W) (es : s ≡ (low + c) % W) where
  low_fits : low < W
  low_fits = rw el (mod-lt (a * b) (lit< tt))

  pub added_carried : (top : ℕ) → s < c → top ≡ (high + 1) % W → top * W + s ≡ c + a * b
  added_carried top l et =
      ap (λ (x : ℕ). x * W + s) (one_up high top (rw eh (product_fits a b ha hb)) et)
      ∙ raised (a * b) high low c s (two_words (a * b) high low eh el) (wraps low c s low_fits hc es l)

  pub added : c ≤ s → high * W + s ≡ c + a * b
  added l = kept (a * b) high low c s (two_words (a * b) high low eh el) (stays low c s low_fits hc es l)
