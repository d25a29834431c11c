-- Numbers of a list, how often one stands in it, and lists in which none stands twice.
use mathlib.Core.Path.{◌≡◌, refl, sym, ap, ap₂, ◌∙◌}
use mathlib.Core.Bool.{Bool, true, false, cond, ◌||◌, false≢true, or-true, or_assoc}
use mathlib.Core.List.{List, [], ◌∷◌, ◌++◌}
use Prim.Native.Nat.{ℕ, zero, suc, ◌+◌, ◌*◌, ◌/◌, ◌≤◌, ◌<◌}
use native.Mathlib.Nat.{suc-mul}
use native.Mathlib.Omega.{arith}
use lib.Dec.{eqb}
use lib.ListN.{length, take, drop}
use borrow.Author.Tests.{eqb-true, eq-eqb, ne_eqb}
use Rattle.std.specs.List.{list_any}
use Rattle.std.specs.Simd.{first_chunks}
use Rattle.std.proofs.lemmas.List.{take-append-drop, drop-drop}
use Rattle.std.proofs.lemmas.List.Folds.{list_any-append}
use Rattle.repeats.specs.Repeats.{member, repeats}

-- ---- tests

eqb_sym : (x y : ℕ) → eqb x y ≡ eqb y x
eqb_sym x y = go (eqb y x) refl
  where
    go : (b : Bool) → eqb y x ≡ b → eqb x y ≡ eqb y x
    go true e = eq-eqb x y (sym (eqb-true y x e)) ∙ sym e
    go false e = ne_eqb x y (λ f. false≢true (sym e ∙ eq-eqb y x (sym f))) ∙ sym e

-- ---- the numbers of a list

pub member_none : (x : ℕ) → member x [] ≡ false
unfolding member
member_none x = refl

pub member_first : (x y : ℕ) (ys : List ℕ) → x ≡ y → member x (y ∷ ys) ≡ true
unfolding member
member_first x y ys e = rw (eq-eqb x y e)

pub member_other : (x y : ℕ) (ys : List ℕ) → (x ≡ y → ⊥) → member x (y ∷ ys) ≡ member x ys
unfolding member
member_other x y ys o = rw (ne_eqb x y o)

member_append : (x : ℕ) (xs ys : List ℕ) → member x (xs ++ ys) ≡ (member x xs || member x ys)
unfolding member
member_append x [] ys = refl
member_append x (z ∷ xs) ys = ap (λ (b : Bool). eqb x z || b) (member_append x xs ys) ∙ sym (or_assoc (eqb x z) (member x xs) (member x ys))

-- one that is no number of the list but of the longer one is the last
pub member_last : (x : ℕ) (xs : List ℕ) (q : ℕ) → member x xs ≡ false → member x (xs ++ (q ∷ [])) ≡ true → x ≡ q
unfolding member
member_last x xs q f e = go (eqb x q) refl (sym (ap (λ (b : Bool). b || (eqb x q || false)) f) ∙ sym (member_append x xs (q ∷ [])) ∙ e)
  where
    go : (b : Bool) → eqb x q ≡ b → (false || (b || false)) ≡ true → x ≡ q
    go true g h = eqb-true x q g
    go false g h = absurd (false≢true h)

-- as the library's search has it
any_member : (x : ℕ) (xs : List ℕ) → list_any (λ y. eqb y x) xs ≡ member x xs
unfolding member
any_member x [] = refl
any_member x (y ∷ ys) = ap₂ (λ (a b : Bool). a || b) (eqb_sym y x) (any_member x ys)

-- in n chunks of k, and in what is left
any_in_chunks : (p : ℕ → Bool) (k n : ℕ) (xs : List ℕ) → (list_any (list_any p) (first_chunks k n xs) || list_any p (drop (n * k) xs)) ≡ list_any p xs
any_in_chunks p k zero xs = let e : zero * k ≡ 0 = omega arith in ap (λ (m : ℕ). list_any p (drop m xs)) e
any_in_chunks p k (suc n) xs =
    let e : suc n * k ≡ k + n * k = omega (arith, suc-mul n k) in
    let rest : drop (suc n * k) xs ≡ drop (n * k) (drop k xs) = ap (λ (m : ℕ). drop m xs) e ∙ sym (drop-drop (n * k) k xs) in
    or_assoc (list_any p (take k xs)) (list_any (list_any p) (first_chunks k n (drop k xs))) (list_any p (drop (suc n * k) xs))
    ∙ ap (λ (ys : List ℕ). list_any p (take k xs) || (list_any (list_any p) (first_chunks k n (drop k xs)) || list_any p ys)) rest
    ∙ ap (λ (b : Bool). list_any p (take k xs) || b) (any_in_chunks p k n (drop k xs))
    ∙ sym (list_any-append p (take k xs) (drop k xs)) ∙ ap (list_any p) (take-append-drop k xs)

pub four_a_turn : (x : ℕ) (xs : List ℕ) {a b : Bool} → a ≡ list_any (list_any (λ y. eqb y x)) (first_chunks 4 (length xs / 4) xs)
    → b ≡ list_any (λ y. eqb y x) (drop (length xs / 4 * 4) xs) → (a || b) ≡ member x xs
four_a_turn x xs e f = ap₂ (λ (a b : Bool). a || b) e f ∙ any_in_chunks (λ y. eqb y x) 4 (length xs / 4) xs ∙ any_member x xs

-- ---- a number more at the end

pub repeats_last : (xs : List ℕ) (q : ℕ) → repeats (xs ++ (q ∷ [])) ≡ (repeats xs || member q xs)
unfolding repeats member
repeats_last [] q = refl
repeats_last (x ∷ xs) q =
    ap (λ (b : Bool). b || repeats (xs ++ (q ∷ []))) (member_append x xs (q ∷ []) ∙ ap (λ (b : Bool). member x xs || (b || false)) (eqb_sym x q))
    ∙ ap (λ (b : Bool). (member x xs || (eqb q x || false)) || b) (repeats_last xs q)
    ∙ rearranged (member x xs) (eqb q x) (repeats xs) (member q xs)
  where
    rearranged : (m e r n : Bool) → ((m || (e || false)) || (r || n)) ≡ ((m || r) || (e || n))
    rearranged true e r n = refl
    rearranged false true true n = refl
    rearranged false true false n = refl
    rearranged false false r n = refl

pub repeats_twice : (xs : List ℕ) (q : ℕ) → member q xs ≡ true → repeats (xs ++ (q ∷ [])) ≡ true
repeats_twice xs q e = repeats_last xs q ∙ ap (λ (b : Bool). repeats xs || b) e ∙ or-true (repeats xs)

-- and any more
pub repeats_more : (xs ys : List ℕ) → repeats xs ≡ true → repeats (xs ++ ys) ≡ true
unfolding repeats
repeats_more [] ys e = absurd (false≢true e)
repeats_more (x ∷ xs) ys e =
    ap (λ (b : Bool). b || repeats (xs ++ ys)) (member_append x xs ys) ∙ go (member x xs) (member x ys) e (repeats_more xs ys)
  where
    go : (a b : Bool) → (a || repeats xs) ≡ true → (repeats xs ≡ true → repeats (xs ++ ys) ≡ true) → ((a || b) || repeats (xs ++ ys)) ≡ true
    go true b e ih = refl
    go false true e ih = refl
    go false false e ih = ih e

-- ---- how often a number stands in a list

unfoldable pub times : ℕ → List ℕ → ℕ
times x [] = 0
times x (y ∷ ys) = cond (eqb x y) (suc (times x ys)) (times x ys)

pub times_none : (x : ℕ) → times x [] ≡ 0
unfolding times
times_none x = refl

times_last : (x : ℕ) (ys : List ℕ) (y : ℕ) → times x (ys ++ (y ∷ [])) ≡ cond (eqb x y) (suc (times x ys)) (times x ys)
unfolding times
times_last x [] y = refl
times_last x (z ∷ ys) y = ap (λ (n : ℕ). cond (eqb x z) (suc n) n) (times_last x ys y) ∙ exchanged (eqb x z) (eqb x y) (times x ys)
  where
    exchanged : (a b : Bool) (n : ℕ) → cond a (suc (cond b (suc n) n)) (cond b (suc n) n) ≡ cond b (suc (cond a (suc n) n)) (cond a (suc n) n)
    exchanged true true n = refl
    exchanged true false n = refl
    exchanged false true n = refl
    exchanged false false n = refl

pub times_same : (x : ℕ) (ys : List ℕ) (y : ℕ) → x ≡ y → times x (ys ++ (y ∷ [])) ≡ suc (times x ys)
times_same x ys y e = times_last x ys y ∙ ap (λ (b : Bool). cond b (suc (times x ys)) (times x ys)) (eq-eqb x y e)

pub times_other : (x : ℕ) (ys : List ℕ) (y : ℕ) → (x ≡ y → ⊥) → times x (ys ++ (y ∷ [])) ≡ times x ys
times_other x ys y o = times_last x ys y ∙ ap (λ (b : Bool). cond b (suc (times x ys)) (times x ys)) (ne_eqb x y o)

pub times_member : (x : ℕ) (xs : List ℕ) → 0 < times x xs → member x xs ≡ true
unfolding times member
times_member x [] h = absurd (omega arith)
times_member x (y ∷ ys) h = go (eqb x y) h (times_member x ys)
  where
    go : (b : Bool) → 0 < cond b (suc (times x ys)) (times x ys) → (0 < times x ys → member x ys ≡ true) → (b || member x ys) ≡ true
    go true h ih = refl
    go false h ih = ih h

member_times : (x : ℕ) (xs : List ℕ) → member x xs ≡ true → 0 < times x xs
unfolding times member
member_times x [] e = absurd (false≢true e)
member_times x (y ∷ ys) e = go (eqb x y) e (member_times x ys)
  where
    go : (b : Bool) → (b || member x ys) ≡ true → (member x ys ≡ true → 0 < times x ys) → 0 < cond b (suc (times x ys)) (times x ys)
    go true e ih = omega arith
    go false e ih = ih e

-- ---- where no number stands twice, none is repeated

-- a list that repeats a number has one that stands in it twice
twice : (xs : List ℕ) → repeats xs ≡ true → (x : ℕ) × (2 ≤ times x xs)
unfolding repeats times
twice [] e = absurd (false≢true e)
twice (y ∷ ys) e = go (member y ys) refl e (twice ys)
  where
    more : (x : ℕ) → times x ys ≤ cond (eqb x y) (suc (times x ys)) (times x ys)
    more x = of (eqb x y)
      where
        of : (b : Bool) → times x ys ≤ cond b (suc (times x ys)) (times x ys)
        of true = omega arith
        of false = omega arith

    go : (b : Bool) → member y ys ≡ b → (b || repeats ys) ≡ true → (repeats ys ≡ true → (x : ℕ) × (2 ≤ times x ys))
        → (x : ℕ) × (2 ≤ cond (eqb x y) (suc (times x ys)) (times x ys))
    go true f e ih = (y, rw (eq-eqb y y refl) (omega (arith, member_times y ys f)))
    go false f e ih = let t = ih e in (t.0, omega (arith, t.1, more t.0))

pub once_all : (xs : List ℕ) → ((x : ℕ) → times x xs ≤ 1) → repeats xs ≡ false
once_all xs once = go (repeats xs) refl
  where
    go : (b : Bool) → repeats xs ≡ b → repeats xs ≡ false
    go true e = let t = twice xs e in absurd (omega (arith, once t.0, t.1))
    go false e = e
