-- The test of kept values: each by its product with what it is the inverse of.
use mathlib.Core.Path.{◌≡◌, refl, sym, ap, subst, ◌∙◌}
use mathlib.Core.Logic.{◌≢◌}
use mathlib.Core.Bool.{Bool, true, false, ◌&&◌}
use mathlib.Core.List.{List}
use Prim.Native.Nat.{ℕ, ◌+◌, ◌%◌, ◌<◌, ◌≤◌}
use native.Mathlib.Omega.{arith}
use lib.Dec.{eqb}
use borrow.Author.Tests.{eqb-true, eqb-false, eq-eqb, ne_eqb}
use Rattle.modular.specs.Arithmetic.{mul, inverse}
use Rattle.modular.proofs.Words.{left_true, right_true}
use Rattle.fields.specs.Prime.{prime}
use Rattle.fields.proofs.Prime.{positive, prime_laws}
use Rattle.poseidon2.specs.Layers.{sum}
use Rattle.poseidon2.specs.Inverse.{inverses, zeros, total_inverse}
use Rattle.poseidon2.specs.Statements.{Words}
use Rattle.poseidon2.proofs.Words.{words_map}
use Rattle.merkle.specs.Lists.{same}
use Rattle.merkle.proofs.Lists.{same_true, same_refl}
use Rattle.kept.specs.Kept.{fits}

-- one number: no word is no inverse; a word is the inverse of another if their product is 1
module _ (d e : ℕ) where
  pub no_word : prime ≤ e → eqb e (inverse prime d) ≡ false
  no_word h = ne_eqb e (inverse prime d) (λ f. absurd (omega (arith, prime_laws.inverses.word d)))

  pub of_zero : d ≡ 0 → eqb e 0 ≡ eqb e (inverse prime d)
  of_zero z = ap (eqb e) (sym (ap (inverse prime) z ∙ prime_laws.inverses.none))

  pub by_product : d ≢ 0 → d < prime → e < prime → eqb (mul prime d e) 1 ≡ eqb e (inverse prime d)
  by_product o w v = of (eqb (mul prime d e) 1) refl
    where
      of : (b : Bool) → eqb (mul prime d e) 1 ≡ b → eqb (mul prime d e) 1 ≡ eqb e (inverse prime d)
      of true t = t ∙ sym (eq-eqb e (inverse prime d) (prime_laws.inverses.only d e (omega arith) w v (eqb-true (mul prime d e) 1 t)))
      of false f =
          f ∙ sym (ne_eqb e (inverse prime d) (λ g. eqb-false (mul prime d e) 1 f (ap (mul prime d) g ∙ prime_laws.inverses.product d (omega arith) w)))

-- inverses are words
pub fitting_words : (D es : List ℕ) → same es (inverses prime D) ≡ true → Words prime es
unfolding inverses
fitting_words D es f =
    subst (Words prime) (sym (same_true es (inverses prime D) f)) (words_map positive (inverse prime) prime_laws.inverses.word D)

module _ (D es : List ℕ) (k : ℕ) where
  pub list_fails : same es (inverses prime D) ≡ false → false ≡ fits prime D es k
  unfolding fits
  list_fails f = sym (ap (λ (b : Bool). b && eqb k (total_inverse prime D)) f)

  module _ (f : same es (inverses prime D) ≡ true) where
    are : es ≡ inverses prime D
    are = same_true es (inverses prime D) f

    left : {b : Bool} → b ≡ eqb k (total_inverse prime D) → b ≡ fits prime D es k
    unfolding fits
    left e = e ∙ sym (ap (λ (b : Bool). b && eqb k (total_inverse prime D)) f)

    pub total_zero : zeros D ≢ 0 → eqb k 0 ≡ fits prime D es k
    unfolding total_inverse
    total_zero o = left (rw (ne_eqb (zeros D) 0 o) refl)

    pub total_sum : zeros D ≡ 0 → (s : ℕ) → s ≡ (1 + sum es) % prime → eqb k (inverse prime s) ≡ fits prime D es k
    unfolding total_inverse
    total_sum z s e =
        left (rw (eq-eqb (zeros D) 0 z) (ap (λ (n : ℕ). eqb k (inverse prime n)) (e ∙ ap (λ (l : List ℕ). (1 + sum l) % prime) are)))

-- what fits
pub kept_are : (p : ℕ) (D es : List ℕ) (k : ℕ) → fits p D es k ≡ true → (es ≡ inverses p D) × (k ≡ total_inverse p D)
unfolding fits
kept_are p D es k f =
    let a = left_true (same es (inverses p D)) (eqb k (total_inverse p D)) f in
    let b = right_true (same es (inverses p D)) (eqb k (total_inverse p D)) f in
    (same_true es (inverses p D) a, eqb-true k (total_inverse p D) b)

-- its own values fit a D
pub own_fit : (p : ℕ) (D : List ℕ) → fits p D (inverses p D) (total_inverse p D) ≡ true
unfolding fits
own_fit p D = rw (same_refl (inverses p D), eq-eqb (total_inverse p D) (total_inverse p D) refl) refl
