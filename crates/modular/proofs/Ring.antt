-- A normaliser of sums, products and negatives: an identity of integer polynomials is a congruence modulo every p, and of natural
-- numbers an equation. Both are shown by a test that the checker computes, so a goal is closed by `tt`.
use mathlib.Core.Path.{◌≡◌, refl, sym, ap, ap₂, ◌∙◌}
use mathlib.Core.List.{List, [], ◌∷◌}
use mathlib.Core.Bool.{Bool, true, false, ◌&&◌}
use Prim.Native.Nat.{ℕ, suc, ◌+◌, ◌*◌, ◌-◌, ◌%◌, ◌<◌}
use native.Mathlib.Nat.{add_assoc, add_comm, add_left_comm, add-zero, zero-add, mul_assoc, mul_left_comm, mul-add, add-mul, one-mul, mul-one, zero-mul, mul-zero, suc-mul}
use native.Mathlib.Omega.{arith}
use lib.ListN.{get_or}
use lib.Dec.{T, eqb, leb, ltb, eqb→eq}
use borrow.Author.Tests.{eqb-true}
use Rattle.modular.specs.Congruence.{◌≈⟨◌⟩◌}
use Rattle.modular.proofs.Congruence.{refl≈, eq≈, sym≈, trans≈, mod≈, add≈, mul≈, word≈, whole≈, wanting≈, minus≈, cancel≈}
use Rattle.modular.proofs.Primes.{and_left, and_right}

infixl 60 ◌⊕◌
infixl 70 ◌⊗◌
-- An expression: a variable by its place in a list, a numeral, a sum, a product, a remainder by p, and the negative modulo p.
pub data Expr : Type 0 where
  var : ℕ → Expr
  num : ℕ → Expr
  ◌⊕◌ : Expr → Expr → Expr
  ◌⊗◌ : Expr → Expr → Expr
  rem : Expr → Expr
  neg : Expr → Expr

-- its value modulo p, where the variables are the numbers of a list
abbrev pub val : ℕ → List ℕ → Expr → ℕ
val p ρ (var i) = get_or ρ i 0
val p ρ (num n) = n
val p ρ (a ⊕ b) = val p ρ a + val p ρ b
val p ρ (a ⊗ b) = val p ρ a * val p ρ b
val p ρ (rem a) = val p ρ a % p
val p ρ (neg a) = p - val p ρ a % p

-- A monomial is its variables in order; a polynomial is its terms in order, each with the positive and the negative part of its
-- coefficient.
abbrev Mono : Type 0
Mono = List ℕ

pub data Poly : Type 0 where
  none : Poly
  term : ℕ → ℕ → Mono → Poly → Poly

insert : ℕ → Mono → Mono
insert i [] = i ∷ []
insert i (j ∷ m) = elim (leb i j) [ true ↦ i ∷ j ∷ m | false ↦ j ∷ insert i m ]

mul_mono : Mono → Mono → Mono
mul_mono [] m = m
mul_mono (i ∷ l) m = insert i (mul_mono l m)

pub data Order : Type 0 where
  before equal after : Order

first : Bool → Bool → Order → Order
first true b o = o
first false true o = before
first false false o = after

order : Mono → Mono → Order
order [] [] = equal
order [] (j ∷ m) = before
order (i ∷ l) [] = after
order (i ∷ l) (j ∷ m) = first (eqb i j) (ltb i j) (order l m)

-- a term before a polynomial's first, joined with it, or after it
place : Order → ℕ → ℕ → Mono → ℕ → ℕ → Mono → Poly → Poly → Poly
place before a b m c d n q r = term a b m (term c d n q)
place equal a b m c d n q r = term (a + c) (b + d) n q
place after a b m c d n q r = term c d n r

add_term : ℕ → ℕ → Mono → Poly → Poly
add_term a b m none = term a b m none
add_term a b m (term c d n q) = place (order m n) a b m c d n q (add_term a b m q)

add_poly : Poly → Poly → Poly
add_poly none q = q
add_poly (term a b m r) q = add_term a b m (add_poly r q)

mul_term : ℕ → ℕ → Mono → Poly → Poly
mul_term a b m none = none
mul_term a b m (term c d n q) = add_term (a * c + b * d) (a * d + b * c) (mul_mono m n) (mul_term a b m q)

mul_poly : Poly → Poly → Poly
mul_poly none q = none
mul_poly (term a b m r) q = add_poly (mul_term a b m q) (mul_poly r q)

norm : Expr → Poly
norm (var i) = term 1 0 (i ∷ []) none
norm (num n) = term n 0 [] none
norm (a ⊕ b) = add_poly (norm a) (norm b)
norm (a ⊗ b) = mul_poly (norm a) (norm b)
norm (rem a) = norm a
norm (neg a) = mul_term 0 1 [] (norm a)

-- every coefficient's two parts are the same
vanishes : Poly → Bool
vanishes none = true
vanishes (term a b m q) = eqb a b && vanishes q

-- The test of an identity: the one less the other has no coefficient but 0.
unfoldable pub same? : Expr → Expr → Bool
unfolding vanishes norm add_poly mul_poly mul_term add_term place order first mul_mono insert
same? a b = vanishes (norm (a ⊕ neg b))

order_equal : (l m : Mono) → order l m ≡ equal → l ≡ m
unfolding order first
order_equal [] [] e = refl
order_equal [] (j ∷ m) e = absurd (let z : ◌≡◌ {A = ℕ} 0 1 = cc in omega arith)
order_equal (i ∷ l) [] e = absurd (let z : ◌≡◌ {A = ℕ} 0 1 = cc in omega arith)
order_equal (i ∷ l) (j ∷ m) e = heads (eqb i j) refl (ltb i j) (order_equal l m) e
  where
    heads : (b : Bool) → eqb i j ≡ b → (c : Bool) → (order l m ≡ equal → l ≡ m) → first b c (order l m) ≡ equal → i ∷ l ≡ j ∷ m
    heads true h c ih e = ap₂ (λ (x : ℕ) (y : Mono). x ∷ y) (eqb-true i j h) (ih e)
    heads false h true ih e = absurd (let z : ◌≡◌ {A = ℕ} 0 1 = cc in omega arith)
    heads false h false ih e = absurd (let z : ◌≡◌ {A = ℕ} 0 1 = cc in omega arith)

-- The value of a polynomial: a coefficient of the parts a and b is a + (p - 1) * b.
module _ (p : ℕ) (ρ : List ℕ) where
  mono_val : Mono → ℕ
  mono_val [] = 1
  mono_val (i ∷ m) = get_or ρ i 0 * mono_val m

  coef : ℕ → ℕ → ℕ
  coef a b = a + (p - 1) * b

  poly_val : Poly → ℕ
  poly_val none = 0
  poly_val (term a b m q) = coef a b * mono_val m + poly_val q

  insert_val : (i : ℕ) (m : Mono) → mono_val (insert i m) ≡ get_or ρ i 0 * mono_val m
  unfolding insert mono_val
  insert_val i [] = refl
  insert_val i (j ∷ m) = at (leb i j) (insert_val i m)
    where
      at : (b : Bool) → mono_val (insert i m) ≡ get_or ρ i 0 * mono_val m
          → mono_val (elim b as (λ _. Mono) [ true ↦ i ∷ j ∷ m | false ↦ j ∷ insert i m ]) ≡ get_or ρ i 0 * (get_or ρ j 0 * mono_val m)
      at true h = refl
      at false h = ap (λ (x : ℕ). get_or ρ j 0 * x) h ∙ mul_left_comm (get_or ρ j 0) (get_or ρ i 0) (mono_val m)

  mul_mono-val : (l m : Mono) → mono_val (mul_mono l m) ≡ mono_val l * mono_val m
  unfolding mul_mono mono_val
  mul_mono-val [] m = sym (one-mul (mono_val m))
  mul_mono-val (i ∷ l) m =
      insert_val i (mul_mono l m) ∙ ap (λ (x : ℕ). get_or ρ i 0 * x) (mul_mono-val l m) ∙ sym (mul_assoc (get_or ρ i 0) (mono_val l) (mono_val m))

  coef_add : (a b c d : ℕ) → coef (a + c) (b + d) ≡ coef a b + coef c d
  unfolding coef
  coef_add a b c d = ap (λ (x : ℕ). a + c + x) (mul-add (p - 1) b d) ∙ omega arith

  place_val : (a b : ℕ) (m : Mono) (c d : ℕ) (n : Mono) (q r : Poly) → poly_val r ≡ coef a b * mono_val m + poly_val q → (o : Order) → order m n ≡ o
      → poly_val (place o a b m c d n q r) ≡ coef a b * mono_val m + (coef c d * mono_val n + poly_val q)
  unfolding poly_val place
  place_val a b m c d n q r h before e = refl
  place_val a b m c d n q r h equal e =
      ap (λ (x : ℕ). x * mono_val n + poly_val q) (coef_add a b c d) ∙ ap (λ (x : ℕ). x + poly_val q) (add-mul (coef a b) (coef c d) (mono_val n))
      ∙ add_assoc (coef a b * mono_val n) (coef c d * mono_val n) (poly_val q)
      ∙ ap (λ (x : Mono). coef a b * mono_val x + (coef c d * mono_val n + poly_val q)) (sym (order_equal m n e))
  place_val a b m c d n q r h after e = ap (λ (x : ℕ). coef c d * mono_val n + x) h ∙ add_left_comm (coef c d * mono_val n) (coef a b * mono_val m) (poly_val q)

  add_term-val : (a b : ℕ) (m : Mono) (q : Poly) → poly_val (add_term a b m q) ≡ coef a b * mono_val m + poly_val q
  unfolding add_term poly_val
  add_term-val a b m none = refl
  add_term-val a b m (term c d n q) = place_val a b m c d n q (add_term a b m q) (add_term-val a b m q) (order m n) refl

  add_poly-val : (r q : Poly) → poly_val (add_poly r q) ≡ poly_val r + poly_val q
  unfolding add_poly poly_val
  add_poly-val none q = sym (zero-add (poly_val q))
  add_poly-val (term a b m r) q =
      add_term-val a b m (add_poly r q) ∙ ap (λ (x : ℕ). coef a b * mono_val m + x) (add_poly-val r q)
      ∙ sym (add_assoc (coef a b * mono_val m) (poly_val r) (poly_val q))

  module _ (pos : 0 < p) where
    -- p - 1 squared is 1
    minus_squared : (p - 1) * (p - 1) ≈⟨ p ⟩ 1
    minus_squared =
        cancel≈ ((p - 1) * (p - 1)) 1 (p - 1) pos
        (trans≈ (eq≈ (sym (suc-mul (p - 1) (p - 1)) ∙ ap (λ (x : ℕ). x * (p - 1)) (omega arith)))
        (trans≈ (whole≈ (p - 1)) (sym≈ (trans≈ (eq≈ whole) (whole≈ 1)))))
      where
        whole : 1 + (p - 1) ≡ p * 1
        whole = omega (arith, mul-one p)

    coef_mul : (a b c d : ℕ) → coef (a * c + b * d) (a * d + b * c) ≈⟨ p ⟩ coef a b * coef c d
    unfolding coef
    coef_mul a b c d =
        sym≈ (trans≈ (eq≈ expand) (trans≈ (add≈ (refl≈ {a = a * c + (p - 1) * (a * d + b * c)}) (mul≈ minus_squared (refl≈ {a = b * d}))) (eq≈ collect)))
      where
        expand : (a + (p - 1) * b) * (c + (p - 1) * d) ≡ a * c + (p - 1) * (a * d + b * c) + (p - 1) * (p - 1) * (b * d)
        expand = product a b c d (p - 1)
          where
            product : (a b c d n : ℕ) → (a + n * b) * (c + n * d) ≡ a * c + n * (a * d + b * c) + n * n * (b * d)
            product a b c d n =
                add-mul a (n * b) (c + n * d)
                ∙ ap₂ (λ (x y : ℕ). x + y) (mul-add a c (n * d)) (mul-add (n * b) c (n * d))
                ∙ ap₂ (λ (x y : ℕ). a * c + x + y) (mul_left_comm a n d) (ap₂ (λ (x y : ℕ). x + y) (mul_assoc n b c) (mul_assoc n b (n * d) ∙ ap (λ (x : ℕ). n * x) (mul_left_comm b n d) ∙ sym (mul_assoc n n (b * d))))
                ∙ regroup (a * c) (n * (a * d)) (n * (b * c)) (n * n * (b * d))
                ∙ ap (λ (x : ℕ). a * c + x + n * n * (b * d)) (sym (mul-add n (a * d) (b * c)))
              where
                regroup : (w x y z : ℕ) → w + x + (y + z) ≡ w + (x + y) + z
                regroup w x y z = omega arith

        collect : a * c + (p - 1) * (a * d + b * c) + 1 * (b * d) ≡ a * c + b * d + (p - 1) * (a * d + b * c)
        collect = ap (λ (x : ℕ). a * c + (p - 1) * (a * d + b * c) + x) (one-mul (b * d)) ∙ omega arith

    mul_term-val : (a b : ℕ) (m : Mono) (q : Poly) → poly_val (mul_term a b m q) ≈⟨ p ⟩ coef a b * mono_val m * poly_val q
    unfolding mul_term poly_val
    mul_term-val a b m none = eq≈ (sym (mul-zero (coef a b * mono_val m)))
    mul_term-val a b m (term c d n q) =
        trans≈ (eq≈ (add_term-val (a * c + b * d) (a * d + b * c) (mul_mono m n) (mul_term a b m q)))
        (trans≈ (add≈ (mul≈ (coef_mul a b c d) (eq≈ (mul_mono-val m n))) (mul_term-val a b m q))
        (eq≈ (ap (λ (x : ℕ). x + coef a b * mono_val m * poly_val q) (crossed (coef a b) (coef c d) (mono_val m) (mono_val n)) ∙ sym (mul-add (coef a b * mono_val m) (coef c d * mono_val n) (poly_val q)))))
      where
        crossed : (w x y z : ℕ) → w * x * (y * z) ≡ w * y * (x * z)
        crossed w x y z = mul_assoc w x (y * z) ∙ ap (λ (u : ℕ). w * u) (mul_left_comm x y z) ∙ sym (mul_assoc w y (x * z))

    mul_poly-val : (r q : Poly) → poly_val (mul_poly r q) ≈⟨ p ⟩ poly_val r * poly_val q
    unfolding mul_poly poly_val
    mul_poly-val none q = eq≈ (sym (zero-mul (poly_val q)))
    mul_poly-val (term a b m r) q =
        trans≈ (eq≈ (add_poly-val (mul_term a b m q) (mul_poly r q)))
        (trans≈ (add≈ (mul_term-val a b m q) (mul_poly-val r q)) (eq≈ (sym (add-mul (coef a b * mono_val m) (poly_val r) (poly_val q)))))

    norm_val : (e : Expr) → val p ρ e ≈⟨ p ⟩ poly_val (norm e)
    unfolding norm poly_val mono_val coef
    norm_val (var i) = eq≈ (sym (add-zero _ ∙ ap₂ (λ (x y : ℕ). x * y) (ap (λ (x : ℕ). 1 + x) (mul-zero (p - 1))) (mul-one (get_or ρ i 0)) ∙ one-mul (get_or ρ i 0)))
    norm_val (num n) = eq≈ (sym (add-zero _ ∙ mul-one (n + (p - 1) * 0) ∙ ap (λ (x : ℕ). n + x) (mul-zero (p - 1)) ∙ add-zero n))
    norm_val (a ⊕ b) = trans≈ (add≈ (norm_val a) (norm_val b)) (eq≈ (sym (add_poly-val (norm a) (norm b))))
    norm_val (a ⊗ b) = trans≈ (mul≈ (norm_val a) (norm_val b)) (sym≈ (mul_poly-val (norm a) (norm b)))
    norm_val (rem a) = trans≈ (mod≈ (val p ρ a)) (norm_val a)
    norm_val (neg a) =
        trans≈ (minus≈ (val p ρ a) pos)
        (trans≈ (mul≈ (eq≈ (sym (mul-one (0 + (p - 1) * 1) ∙ zero-add ((p - 1) * 1) ∙ mul-one (p - 1)))) (norm_val a)) (sym≈ (mul_term-val 0 1 [] (norm a))))

    vanishes_val : (q : Poly) → T (vanishes q) → poly_val q ≈⟨ p ⟩ 0
    unfolding vanishes poly_val coef
    vanishes_val none t = refl≈
    vanishes_val (term a b m q) t =
        trans≈ (add≈ (mul≈ (zero_coef (eqb→eq a b (and_left (eqb a b) (vanishes q) t))) (refl≈ {a = mono_val m})) (vanishes_val q (and_right (eqb a b) (vanishes q) t)))
        (eq≈ (add-zero (0 * mono_val m) ∙ zero-mul (mono_val m)))
      where
        zero_coef : a ≡ b → a + (p - 1) * b ≈⟨ p ⟩ 0
        zero_coef e =
            let s : suc (p - 1) ≡ p = omega arith in
            trans≈ (eq≈ (ap (λ (x : ℕ). x + (p - 1) * b) e ∙ add_comm b ((p - 1) * b) ∙ sym (suc-mul (p - 1) b) ∙ ap (λ (x : ℕ). x * b) s)) (whole≈ b)

-- An identity holds modulo every p.
pub ring : (p : ℕ) (ρ : List ℕ) (a b : Expr) → 0 < p → T (same? a b) → val p ρ a ≈⟨ p ⟩ val p ρ b
unfolding same?
ring p ρ a b pos t =
    let h : val p ρ a + (p - val p ρ b % p) ≈⟨ p ⟩ 0 = trans≈ (norm_val p ρ pos (a ⊕ neg b)) (vanishes_val p ρ pos (norm (a ⊕ neg b)) t) in
    cancel≈ (val p ρ a) (val p ρ b) (p - val p ρ b % p) pos (trans≈ h (sym≈ (wanting≈ (val p ρ b) pos)))

-- Congruences at hand, each taken a number of times: `by q l r h` is q times h, which says that l is congruent to r.
pub data Uses (p : ℕ) (ρ : List ℕ) : Expr → Expr → Type 0 where
  nothing : Uses p ρ (num 0) (num 0)
  by : (q l r : Expr) {a b : Expr} → val p ρ l ≈⟨ p ⟩ val p ρ r → Uses p ρ a b → Uses p ρ (q ⊗ l ⊕ a) (q ⊗ r ⊕ b)

uses_val : {p : ℕ} {ρ : List ℕ} {a b : Expr} → Uses p ρ a b → val p ρ a ≈⟨ p ⟩ val p ρ b
uses_val nothing = refl≈
uses_val (by q l r h u) = add≈ (mul≈ refl≈ h) (uses_val u)

-- What follows from congruences at hand: a is congruent to b where a and the right sides are one polynomial with b and the left sides.
pub ring_by : (p : ℕ) (ρ : List ℕ) (a b : Expr) {c d : Expr} → Uses p ρ c d → 0 < p → T (same? (a ⊕ d) (b ⊕ c)) → val p ρ a ≈⟨ p ⟩ val p ρ b
ring_by p ρ a b {c} {d} u pos t =
    cancel≈ (val p ρ a) (val p ρ b) (val p ρ d) pos
    (trans≈ (ring p ρ (a ⊕ d) (b ⊕ c) pos t) (add≈ refl≈ (uses_val u)))

-- The remainders of expressions, as a list.
abbrev pub rems : ℕ → List ℕ → List Expr → List ℕ
rems p ρ [] = []
rems p ρ (a ∷ xs) = val p ρ a % p ∷ rems p ρ xs

unfoldable pub sames? : List Expr → List Expr → Bool
unfolding same?
sames? [] [] = true
sames? [] (b ∷ ys) = false
sames? (a ∷ xs) [] = false
sames? (a ∷ xs) (b ∷ ys) = same? a b && sames? xs ys

pub rings : (p : ℕ) (ρ : List ℕ) (xs ys : List Expr) → 0 < p → T (sames? xs ys) → rems p ρ xs ≡ rems p ρ ys
unfolding sames?
rings p ρ [] [] pos t = refl
rings p ρ [] (b ∷ ys) pos t = absurd t
rings p ρ (a ∷ xs) [] pos t = absurd t
rings p ρ (a ∷ xs) (b ∷ ys) pos t =
    ap₂ (λ (x : ℕ) (y : List ℕ). x ∷ y) (ring p ρ a b pos (and_left (same? a b) (sames? xs ys) t)).same (rings p ρ xs ys pos (and_right (same? a b) (sames? xs ys) t))

-- An expression of sums and products alone.
unfoldable pub plain? : Expr → Bool
plain? (var i) = true
plain? (num n) = true
plain? (a ⊕ b) = plain? a && plain? b
plain? (a ⊗ b) = plain? a && plain? b
plain? (rem a) = false
plain? (neg a) = false

plain_val : (p q : ℕ) (ρ : List ℕ) (e : Expr) → T (plain? e) → val p ρ e ≡ val q ρ e
unfolding plain?
plain_val p q ρ (var i) t = refl
plain_val p q ρ (num n) t = refl
plain_val p q ρ (a ⊕ b) t = ap₂ (λ (x y : ℕ). x + y) (plain_val p q ρ a (and_left (plain? a) (plain? b) t)) (plain_val p q ρ b (and_right (plain? a) (plain? b) t))
plain_val p q ρ (a ⊗ b) t = ap₂ (λ (x y : ℕ). x * y) (plain_val p q ρ a (and_left (plain? a) (plain? b) t)) (plain_val p q ρ b (and_right (plain? a) (plain? b) t))
plain_val p q ρ (rem a) t = absurd t
plain_val p q ρ (neg a) t = absurd t

unfoldable pub exact? : Expr → Expr → Bool
unfolding plain? same?
exact? a b = plain? a && plain? b && same? a b

-- An identity of sums and products is an equation of numbers: it is a congruence modulo a number above both sides.
pub ringℕ : (ρ : List ℕ) (a b : Expr) → T (exact? a b) → val 0 ρ a ≡ val 0 ρ b
unfolding exact?
ringℕ ρ a b t =
    let pa : val (suc (val 0 ρ a + val 0 ρ b)) ρ a ≡ val 0 ρ a = plain_val (suc (val 0 ρ a + val 0 ρ b)) 0 ρ a (search (and_left, and_right)) in
    let pb : val (suc (val 0 ρ a + val 0 ρ b)) ρ b ≡ val 0 ρ b = plain_val (suc (val 0 ρ a + val 0 ρ b)) 0 ρ b (search (and_left, and_right)) in
    word≈ {p = suc (val 0 ρ a + val 0 ρ b)} (omega arith) (omega arith)
    (trans≈ (eq≈ (sym pa)) (trans≈ (ring (suc (val 0 ρ a + val 0 ρ b)) ρ a b (omega arith) (search (and_left, and_right))) (eq≈ pb)))
