-- The products of the words that are not 0, one word more at a time.
use mathlib.Core.Path.{◌≡◌, refl, sym, ap, subst, ◌∙◌}
use mathlib.Core.Logic.{◌≢◌, ⊎_elim}
use mathlib.Core.List.{List, [], ◌∷◌, ◌++◌, map}
use Prim.Native.Nat.{ℕ, ◌+◌, ◌*◌, ◌%◌, ◌<◌}
use native.Mathlib.Nat.{add-zero, zero-add, add_assoc, mul-one, one-mul, mul_assoc, mod-lt, mod-eq_of_lt}
use native.Mathlib.Numerals.{add-one}
use native.Mathlib.Decide.{ℕ_discrete}
use native.Mathlib.Omega.{arith}
use lib.ListN.{length, get_or, take, set, length-set}
use lib.Seq.{take-suc, get_or-set_same, get_or-set_other}
use borrow.Author.Tests.{eq-eqb, ne_eqb}
use Rattle.modular.specs.Arithmetic.{mul, inverse}
use Rattle.modular.specs.Congruence.{◌≈⟨◌⟩◌}
use Rattle.modular.specs.PrimeField.{PrimeField}
use Rattle.modular.proofs.Congruence.{refl≈, eq≈, sym≈, trans≈, mod≈, mul≈}
use Rattle.modular.proofs.PrimeField.{prime_laws}
use Rattle.modular.proofs.Ring.{var, num, ◌⊕◌, ◌⊗◌, same?, ring_by, by, nothing}
use Rattle.poseidon2.specs.Layers.{sum}
use Rattle.poseidon2.specs.Inverse.{inverses, zeros}
use Rattle.poseidon2.specs.Statements.{Words}
use Rattle.poseidon2.proofs.Words.{words_tail}
use Rattle.poseidon2.proofs.Zeros.{one_zero_more, no_zero_more}
use Rattle.kept.specs.Products.{or_one, product_of, ProductsOf}

-- a word that is not 0 counts as itself
pub as_itself : (d : ℕ) → d ≢ 0 → or_one d ≡ d
unfolding or_one
as_itself d o = rw (ne_eqb d 0 o) refl

pub as_one : (d : ℕ) → d ≡ 0 → or_one d ≡ 1
unfolding or_one
as_one d e = rw (eq-eqb d 0 e) refl

product_append : (xs ys : List ℕ) → product_of (xs ++ ys) ≡ product_of xs * product_of ys
unfolding product_of
product_append [] ys = sym (one-mul (product_of ys))
product_append (x ∷ xs) ys = ap (λ (n : ℕ). or_one x * n) (product_append xs ys) ∙ sym (mul_assoc (or_one x) (product_of xs) (product_of ys))

sum-append : (xs ys : List ℕ) → sum (xs ++ ys) ≡ sum xs + sum ys
unfolding sum
sum-append [] ys = sym (zero-add (sum ys))
sum-append (x ∷ xs) ys = ap (λ (n : ℕ). x + n) (sum-append xs ys) ∙ sym (add_assoc x (sum xs) (sum ys))

map-append : (f : ℕ → ℕ) (xs ys : List ℕ) → map f (xs ++ ys) ≡ map f xs ++ map f ys
map-append f [] ys = refl
map-append f (x ∷ xs) ys = ap (λ (l : List ℕ). f x ∷ l) (map-append f xs ys)

module _ (D : List ℕ) (i : ℕ) (h : i < length D) where
  one_more_lem : take (i + 1) D ≡ take i D ++ (get_or D i 0 ∷ [])
  one_more_lem = ap (λ (n : ℕ). take n D) (add-one i) ∙ take-suc D i 0 h

  pub product_more : product_of (take (i + 1) D) ≡ product_of (take i D) * or_one (get_or D i 0)
  unfolding product_of
  product_more =
      ap product_of one_more_lem ∙ product_append (take i D) (get_or D i 0 ∷ []) ∙ ap (λ (n : ℕ). product_of (take i D) * n) (mul-one (or_one (get_or D i 0)))

  pub sum_more : (p : ℕ) → sum (inverses p (take (i + 1) D)) ≡ sum (inverses p (take i D)) + inverse p (get_or D i 0)
  unfolding inverses sum
  sum_more p =
      ap (λ (l : List ℕ). sum (map (inverse p) l)) one_more_lem
      ∙ ap sum (map-append (inverse p) (take i D) (get_or D i 0 ∷ []))
      ∙ sum-append (map (inverse p) (take i D)) (inverse p (get_or D i 0) ∷ [])
      ∙ ap (λ (n : ℕ). sum (map (inverse p) (take i D)) + n) (add-zero (inverse p (get_or D i 0)))

module _ (p : ℕ) (F : PrimeField p) where
  pub above_zero : 0 < p
  above_zero = omega (arith, F.fermat.above)

  -- a product of numbers that are not 0 modulo p is not
  pub product_nonzero : (a b : ℕ) → a % p ≢ 0 → b % p ≢ 0 → a * b % p ≢ 0
  unfolding mul
  product_nonzero a b ha hb e =
      ⊎_elim ha hb ((prime_laws p F).no_zero_divisors (a % p) (b % p) (mod-lt a above_zero) (mod-lt b above_zero) ((mul≈ (mod≈ a) (mod≈ b)).same ∙ e))

  one_nonzero : 1 % p ≢ 0
  one_nonzero e = absurd (omega (arith, mod-eq_of_lt {n = 1} {m = p} (omega (arith, F.fermat.above))))

  word_nonzero : (d : ℕ) → d < p → or_one d % p ≢ 0
  word_nonzero d w = of (ℕ_discrete d 0)
    where
      of : Dec (d ≡ 0) → or_one d % p ≢ 0
      of (yes e) = subst (λ (n : ℕ). n % p ≢ 0) (sym (as_one d e)) one_nonzero
      of (no o) = subst (λ (n : ℕ). n % p ≢ 0) (sym (as_itself d o)) (λ z. o (sym (mod-eq_of_lt w) ∙ z))

  -- the product of words is not 0
  pub words_nonzero : (D : List ℕ) → Words p D → product_of D % p ≢ 0
  unfolding product_of
  words_nonzero [] w = one_nonzero
  words_nonzero (d ∷ D) w = product_nonzero (or_one d) (product_of D) (word_nonzero d (w.at 0)) (words_nonzero D (words_tail w))

  -- an inverse, as a congruence
  pub unit : (d : ℕ) → d ≢ 0 → d < p → d * inverse p d ≈⟨ p ⟩ 1
  unfolding mul
  unit d o w = record { same = (prime_laws p F).inverses.product d (omega arith) w ∙ sym (mod-eq_of_lt (omega (arith, F.fermat.above))) }

  module _ (D : List ℕ) where
    abbrev Made : ℕ → List ℕ → ℕ → ℕ → Type 0
    Made n before all scaled = ProductsOf p D n (record { before = before; all = all; scaled = scaled })

    pub none_made : (before : List ℕ) → length before ≡ 12 → Made 0 before 1 1
    unfolding product_of sum inverses
    none_made before l = record {
      before = record { long = l; at = λ i h. absurd (omega arith) };
      all = refl≈;
      scaled = λ z. refl≈;
    }

    -- one word more
    module _ (i : ℕ) (before : List ℕ) (all scaled all' scaled' : ℕ) (h : i < length D) (few : i < 12) (w : get_or D i 0 < p)
        (ea : all' ≈⟨ p ⟩ all * or_one (get_or D i 0)) (es : scaled' ≈⟨ p ⟩ all + scaled * or_one (get_or D i 0)) (M : Made i before all scaled) where
      abbrev d : ℕ
      d = get_or D i 0

      abbrev P : ℕ
      P = product_of (take i D)

      abbrev S : ℕ
      S = 1 + sum (inverses p (take i D))

      nonzero : zeros (take (i + 1) D) ≡ 0 → d ≢ 0
      nonzero z e = absurd (omega (arith, one_zero_more D i h e))

      scaled_more : zeros (take (i + 1) D) ≡ 0 → scaled' ≈⟨ p ⟩ product_of (take (i + 1) D) * (1 + sum (inverses p (take (i + 1) D)))
      unfolding same?
      scaled_more z =
          let o = nonzero z in
          let itself = as_itself d o in
          let made : all + scaled * d ≈⟨ p ⟩ P * d * (S + inverse p d) =
          ring_by p (all ∷ scaled ∷ d ∷ inverse p d ∷ P ∷ S ∷ []) (var 0 ⊕ var 1 ⊗ var 2) (var 4 ⊗ var 2 ⊗ (var 5 ⊕ var 3))
          (by (num 1) (var 0) (var 4) M.all (by (var 2) (var 1) (var 4 ⊗ var 5) (M.scaled (sym (no_zero_more D i h o) ∙ z)) (by (var 4) (num 1) (var 2 ⊗ var 3) (sym≈ (unit d o w)) nothing))) above_zero tt in
          trans≈ es (trans≈ (eq≈ (ap (λ (n : ℕ). all + scaled * n) itself)) (trans≈ made (eq≈ (sym (whole itself)))))
        where
          both : {a b m n : ℕ} → a ≡ b → m ≡ n → a * m ≡ b * n
          both e f = cc

          whole : or_one d ≡ d → product_of (take (i + 1) D) * (1 + sum (inverses p (take (i + 1) D))) ≡ P * d * (S + inverse p d)
          whole e = both (product_more D i h ∙ ap (λ (n : ℕ). P * n) e) (ap (λ (n : ℕ). 1 + n) (sum_more D i h p) ∙ sym (add_assoc 1 (sum (inverses p (take i D))) (inverse p d)))

      at_more : (j : ℕ) → j < i + 1 → get_or (set before i all) j 0 ≈⟨ p ⟩ product_of (take j D)
      at_more j b = of (ℕ_discrete j i)
        where
          of : Dec (j ≡ i) → get_or (set before i all) j 0 ≈⟨ p ⟩ product_of (take j D)
          of (yes e) =
              let here : get_or (set before i all) j 0 ≡ all = ap (λ (k : ℕ). get_or (set before i all) k 0) e ∙ get_or-set_same before i all 0 (omega (arith, M.before.long)) in
              trans≈ (eq≈ here) (trans≈ M.all (eq≈ (ap (λ (k : ℕ). product_of (take k D)) (sym e))))
          of (no o) = trans≈ (eq≈ (get_or-set_other before i j all 0 o)) (M.before.at j (omega arith))

      pub made_more : Made (i + 1) (set before i all) all' scaled'
      made_more = record {
        before = record { long = length-set before i all ∙ M.before.long; at = at_more };
        all = trans≈ ea (trans≈ (mul≈ M.all (refl≈ {a = or_one d})) (eq≈ (sym (product_more D i h))));
        scaled = scaled_more;
      }
