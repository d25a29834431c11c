-- The numbers that undo M_E, as the code has them: M4's sums from the last to the first, and minus the inverses of 3 and 4.
use mathlib.Core.Path.{◌≡◌, refl, sym, ap, ◌∙◌}
use mathlib.Core.Logic.{inl}
use mathlib.Core.List.{List, [], ◌∷◌, append-nil}
use Prim.Native.Nat.{ℕ, ◌+◌, ◌*◌, ◌-◌, ◌%◌, ◌<◌}
use native.Mathlib.Omega.{arith}
use lib.ListN.{length, get_or}
use Rattle.modular.specs.Arithmetic.{sub, inverse}
use Rattle.modular.specs.Congruence.{◌≈⟨◌⟩◌}
use Rattle.modular.proofs.Congruence.{refl≈, trans≈, add≈, rest≈}
use Rattle.modular.proofs.Ring.{Expr, var, num, ◌⊕◌, ◌⊗◌, rem, neg, same?, ring, ring_by, nothing, by}
use Rattle.fields.specs.Prime.{prime}
use Rattle.fields.proofs.Prime.{positive, prime_field}
use Rattle.poseidon2.specs.Layers.{dot, rows_times, m4_rows, m4, blocks, join_blocks, mixed, external}
use Rattle.poseidon2.specs.Inverse.{negative, unm4, unmixed, unexternal}
use Rattle.poseidon2.specs.Statements.{Words}
use Rattle.poseidon2.proofs.Words.{words_none, words_more}
use Rattle.poseidon2.proofs.External.{four_eq}
use Rattle.poseidon2.proofs.Rounds.{invertible}
use Rattle.inversion.proofs.Blocks.{four}

-- a difference and what was taken off it
pub restored : (a b : ℕ) {r : ℕ} → r ≡ sub prime a b → r + b ≈⟨ prime ⟩ a
unfolding same? sub
restored a b e = rw e (ring prime (a ∷ b ∷ []) (rem (var 0 ⊕ neg (var 1)) ⊕ var 1) (var 0) positive tt)

-- a part of it, k times
pub divided : (k q a b : ℕ) {r : ℕ} → k * q ≈⟨ prime ⟩ r → r ≡ sub prime a b → k * q + b ≈⟨ prime ⟩ a
divided k q a b h e = trans≈ (add≈ h (refl≈ {a = b})) (restored a b e)

-- M4 and its inverse on a block of words
m4_back : (b : List ℕ) → length b ≡ 4 → Words prime b → unm4 prime (m4 prime b) ≡ b
unfolding unexternal external mixed unmixed blocks join_blocks m4 rows_times m4_rows
m4_back [] l w = absurd (omega arith)
m4_back (a ∷ []) l w = absurd (omega arith)
m4_back (a ∷ b ∷ []) l w = absurd (omega arith)
m4_back (a ∷ b ∷ c ∷ []) l w = absurd (omega arith)
m4_back (a ∷ b ∷ c ∷ d ∷ []) l w =
    sym (append-nil (unm4 prime (m4 prime (a ∷ b ∷ c ∷ d ∷ [])))) ∙ ((invertible prime_field).external_layer 4 (inl refl)).back (a ∷ b ∷ c ∷ d ∷ []) (record { width = l; words = w })
m4_back (a ∷ b ∷ c ∷ d ∷ e ∷ xs) l w = absurd (omega arith)

-- M4 of what the steps leave is what they were handed
module _ (x : List ℕ) (words : Words prime x) (t3 t2 t1 t0 a b c d : ℕ)
    (e3 : t3 + get_or x 1 0 ≈⟨ prime ⟩ get_or x 0 0) (e2 : t2 + get_or x 3 0 ≈⟨ prime ⟩ get_or x 2 0)
    (e1 : 4 * t1 + t3 ≈⟨ prime ⟩ get_or x 3 0) (e0 : 4 * t0 + t2 ≈⟨ prime ⟩ get_or x 1 0)
    (ed : 2 * d + t0 ≈⟨ prime ⟩ t3) (eb : 2 * b + t1 ≈⟨ prime ⟩ t2) (ea : a + b ≈⟨ prime ⟩ t0) (ec : c + d ≈⟨ prime ⟩ t1) where
  -- x, then t3 to t0, then a to d
  abbrev ρ : List ℕ
  ρ = get_or x 0 0 ∷ get_or x 1 0 ∷ get_or x 2 0 ∷ get_or x 3 0 ∷ t3 ∷ t2 ∷ t1 ∷ t0 ∷ a ∷ b ∷ c ∷ d ∷ []

  abbrev row : ℕ → ℕ → ℕ → ℕ → Expr
  row i j k l = num i ⊗ var 8 ⊕ (num j ⊗ var 9 ⊕ (num k ⊗ var 10 ⊕ (num l ⊗ var 11 ⊕ num 0)))

  first : 5 * a + (7 * b + (1 * c + (3 * d + 0))) ≈⟨ prime ⟩ get_or x 0 0
  unfolding same?
  first =
      ring_by prime ρ (row 5 7 1 3) (var 0)
      (by (num 5) (var 8 ⊕ var 9) (var 7) ea (by (num 1) (var 10 ⊕ var 11) (var 6) ec (by (num 1) (num 2 ⊗ var 9 ⊕ var 6) (var 5) eb
      (by (num 1) (num 2 ⊗ var 11 ⊕ var 7) (var 4) ed (by (num 1) (num 4 ⊗ var 7 ⊕ var 5) (var 1) e0 (by (num 1) (var 4 ⊕ var 1) (var 0) e3 nothing)))))) positive tt

  second : 4 * a + (6 * b + (1 * c + (1 * d + 0))) ≈⟨ prime ⟩ get_or x 1 0
  unfolding same?
  second =
      ring_by prime ρ (row 4 6 1 1) (var 1)
      (by (num 4) (var 8 ⊕ var 9) (var 7) ea (by (num 1) (var 10 ⊕ var 11) (var 6) ec (by (num 1) (num 2 ⊗ var 9 ⊕ var 6) (var 5) eb
      (by (num 1) (num 4 ⊗ var 7 ⊕ var 5) (var 1) e0 nothing)))) positive tt

  third : 1 * a + (3 * b + (5 * c + (7 * d + 0))) ≈⟨ prime ⟩ get_or x 2 0
  unfolding same?
  third =
      ring_by prime ρ (row 1 3 5 7) (var 2)
      (by (num 1) (var 8 ⊕ var 9) (var 7) ea (by (num 5) (var 10 ⊕ var 11) (var 6) ec (by (num 1) (num 2 ⊗ var 9 ⊕ var 6) (var 5) eb
      (by (num 1) (num 2 ⊗ var 11 ⊕ var 7) (var 4) ed (by (num 1) (num 4 ⊗ var 6 ⊕ var 4) (var 3) e1 (by (num 1) (var 5 ⊕ var 3) (var 2) e2 nothing)))))) positive tt

  fourth : 1 * a + (1 * b + (4 * c + (6 * d + 0))) ≈⟨ prime ⟩ get_or x 3 0
  unfolding same?
  fourth =
      ring_by prime ρ (row 1 1 4 6) (var 3)
      (by (num 1) (var 8 ⊕ var 9) (var 7) ea (by (num 4) (var 10 ⊕ var 11) (var 6) ec (by (num 1) (num 2 ⊗ var 11 ⊕ var 7) (var 4) ed
      (by (num 1) (num 4 ⊗ var 6 ⊕ var 4) (var 3) e1 nothing)))) positive tt

  m4_is : length x ≡ 4 → m4 prime (a ∷ b ∷ c ∷ d ∷ []) ≡ x
  unfolding m4 rows_times m4_rows dot
  m4_is l =
      four_eq (rest≈ (words.at 0) first) (rest≈ (words.at 1) second) (rest≈ (words.at 2) third) (rest≈ (words.at 3) fourth) ∙ sym (four x l)

  pub unm4_steps : length x ≡ 4 → a < prime → b < prime → c < prime → d < prime → a ∷ b ∷ c ∷ d ∷ [] ≡ unm4 prime x
  unm4_steps l ha hb hc hd =
      sym (m4_back (a ∷ b ∷ c ∷ d ∷ []) refl (words_more positive ha (words_more positive hb (words_more positive hc (words_more positive hd (words_none positive))))))
      ∙ ap (unm4 prime) (m4_is l)

-- what stands for minus the inverse of 1 + n
abbrev pub part_of : ℕ → ℕ
part_of n = negative prime (inverse prime ((1 + n) % prime))

pub as_part : (n : ℕ) {r : ℕ} → r ≡ prime - inverse prime ((1 + n) % prime) % prime → r ≡ part_of n
unfolding negative
as_part n e = e
