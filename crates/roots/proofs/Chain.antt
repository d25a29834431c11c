-- Exponents: numbers that stand for powers of words are multiplied, and squared, by sums and products of the exponents. A number alone is a
-- list of one.
use mathlib.Core.Path.{◌≡◌, refl, sym, ap, ap₂, subst, ◌∙◌}
use mathlib.Core.List.{List, [], ◌∷◌}
use Prim.Native.Nat.{ℕ, ◌+◌, ◌*◌, ◌%◌, ◌^◌, ◌<◌}
use native.Mathlib.Nat.{pow-suc, mod-lt, mod-mod, mod-eq_of_lt}
use native.Mathlib.Numerals.{add-one}
use native.Mathlib.Omega.{arith}
use lib.Dec.{lit<}
use lib.ListN.{get_or, drop}
use Rattle.modular.specs.Arithmetic.{mul, pow, seventh_root}
use Rattle.modular.specs.Congruence.{◌≈⟨◌⟩◌}
use Rattle.modular.specs.Goldilocks.{p, root_exponent}
use Rattle.modular.proofs.Congruence.{refl≈, eq≈, sym≈, trans≈, mod≈, mul≈, pow≈}
use Rattle.modular.proofs.Powers.{pow-add, pow-mul, pow-one}
use Rattle.modular.proofs.Goldilocks.{seventh_root_power}
use Rattle.poseidon2.specs.Inverse.{seventh_roots}
use Rattle.poseidon2.specs.Residues.{residues}
use Rattle.poseidon2.specs.Statements.{Words}
use Rattle.poseidon2.proofs.Words.{cons_eq, words_tail}
use Rattle.blocks.specs.Blocks.{four}
use Rattle.blocks.proofs.Lists.{four_eq}
use Rattle.roots.specs.Powers.{products, powers}

-- ---- residues are enough

products_left : (xs ys : List ℕ) → products p (residues p xs) ys ≡ products p xs ys
unfolding products residues mul
products_left [] ys = refl
products_left (x ∷ xs) ys = cons_eq (mul≈ (mod≈ {p = p} x) (refl≈ {a = get_or ys 0 0})).same (products_left xs (drop 1 ys))

products_right : (xs ys : List ℕ) → products p xs (residues p ys) ≡ products p xs ys
unfolding products residues mul
products_right [] ys = refl
products_right (x ∷ xs) [] = cons_eq refl (products_right xs [])
products_right (x ∷ xs) (y ∷ ys) = cons_eq (mul≈ (refl≈ {p = p} {a = x}) (mod≈ y)).same (products_right xs ys)

powers_of_residues : (e : ℕ) (xs : List ℕ) → powers p e (residues p xs) ≡ powers p e xs
unfolding powers residues pow
powers_of_residues e [] = refl
powers_of_residues e (x ∷ xs) = cons_eq (pow≈ (mod≈ {p = p} x) e).same (powers_of_residues e xs)

-- ---- sums and products of exponents

products_of_powers : (a b : ℕ) (ws : List ℕ) → products p (powers p a ws) (powers p b ws) ≡ powers p (a + b) ws
unfolding products powers mul pow
products_of_powers a b [] = refl
products_of_powers a b (w ∷ ws) =
    cons_eq (trans≈ (mul≈ (mod≈ {p = p} (w ^ a)) (mod≈ (w ^ b))) (eq≈ (sym (pow-add w a b)))).same (products_of_powers a b ws)

powers_of_powers : (a b : ℕ) (ws : List ℕ) → powers p b (powers p a ws) ≡ powers p (a * b) ws
unfolding powers pow
powers_of_powers a b [] = refl
powers_of_powers a b (w ∷ ws) =
    cons_eq (trans≈ (pow≈ (mod≈ {p = p} (w ^ a)) b) (eq≈ (sym (pow-mul w a b)))).same (powers_of_powers a b ws)

-- the numbers xs stand for the powers of the ws to e
pub record Stand (e : ℕ) (ws xs : List ℕ) : Type 0 where
  pub same : residues p xs ≡ powers p e ws

powers_one : (ws : List ℕ) → residues p ws ≡ powers p 1 ws
unfolding powers residues pow
powers_one [] = refl
powers_one (w ∷ ws) = cons_eq (ap (λ (n : ℕ). n % p) (sym (pow-one w))) (powers_one ws)

pub stand_one : (ws : List ℕ) → Stand 1 ws ws
stand_one ws = record { same = powers_one ws }

stand_times : {a b : ℕ} {ws xs ys : List ℕ} (rs : List ℕ) → Stand a ws xs → Stand b ws ys → residues p rs ≡ products p xs ys → Stand (a + b) ws rs
stand_times {a} {b} {ws} {xs} {ys} rs h k e = record {
  same = e ∙ sym (products_left xs ys) ∙ sym (products_right (residues p xs) ys) ∙ ap₂ (products p) h.same k.same ∙ products_of_powers a b ws;
}

-- x squared n times, times y
pub stand_raised : {a b : ℕ} {ws xs ys : List ℕ} (n : ℕ) (rs : List ℕ) → Stand a ws xs → Stand b ws ys
    → residues p rs ≡ products p (powers p (2 ^ n) xs) ys → Stand (a * 2 ^ n + b) ws rs
stand_raised {a} {b} {ws} {xs} {ys} n rs h k e = record {
  same =
      e ∙ sym (products_right (powers p (2 ^ n) xs) ys)
      ∙ ap₂ (products p) (sym (powers_of_residues (2 ^ n) xs) ∙ ap (powers p (2 ^ n)) h.same ∙ powers_of_powers a (2 ^ n) ws) k.same
      ∙ products_of_powers (a * 2 ^ n) b ws;
}

-- ---- a loop of squarings: after i of them

pub squared_none : (xs : List ℕ) → Stand (2 ^ 0) xs xs
squared_none xs = stand_one xs

-- twice a power of 2
twice : (i : ℕ) → 2 ^ i + 2 ^ i ≡ 2 ^ (i + 1)
twice i = omega (arith, pow-suc 2 i, ap (λ (n : ℕ). 2 ^ n) (add-one i))

pub squared_more : (i : ℕ) {xs rs : List ℕ} (ss : List ℕ) → Stand (2 ^ i) xs rs → residues p ss ≡ products p rs rs → Stand (2 ^ (i + 1)) xs ss
squared_more i {xs} ss h e = subst (λ (n : ℕ). Stand n xs ss) (twice i) (stand_times ss h h e)

pub squared_times : (i n : ℕ) {xs rs : List ℕ} (ys ss : List ℕ) → i ≡ n → Stand (2 ^ i) xs rs → residues p ss ≡ products p rs ys
    → residues p ss ≡ products p (powers p (2 ^ n) xs) ys
squared_times i n {xs} {rs} ys ss d h e =
    e ∙ sym (products_left rs ys) ∙ ap (λ (zs : List ℕ). products p zs ys) (h.same ∙ ap (λ (k : ℕ). powers p (2 ^ k) xs) d)

-- ---- the chain of a root alone

-- the three ones at the end at once
pub root_at_once : (ws two four five ten both most : List ℕ)
    → residues p two ≡ products p (powers p (2 ^ 3) ws) ws
    → residues p four ≡ products p (powers p (2 ^ 6) two) two
    → residues p five ≡ products p (powers p (2 ^ 3) four) ws
    → residues p ten ≡ products p (powers p (2 ^ 15) five) five
    → residues p both ≡ products p (powers p (2 ^ 31) ten) ten
    → residues p most ≡ products p (powers p (2 ^ 1) both) ten
    → (sevenths r : List ℕ) → Stand 7 ws sevenths → residues p r ≡ products p (powers p (2 ^ 4) most) sevenths → Stand root_exponent ws r
root_at_once ws two four five ten both most e2 e4 e5 e10 eb em sevenths r h e =
    let one : Stand 1 ws ws = stand_one ws in
    let h2 : Stand 9 ws two = stand_raised 3 two one one e2 in
    let h4 : Stand 585 ws four = stand_raised 6 four h2 h2 e4 in
    let h5 : Stand 4681 ws five = stand_raised 3 five h4 one e5 in
    let h10 : Stand 153391689 ws ten = stand_raised 15 ten h5 h5 e10 in
    let hb : Stand 329406144019993161 ws both = stand_raised 31 both h10 h10 eb in
    let hm : Stand 658812288193378011 ws most = stand_raised 1 most hb h10 em in
    stand_raised 4 r hm h e

-- ---- roots

-- that power of words is the seventh root
roots_are : (ws : List ℕ) → Words p ws → powers p root_exponent ws ≡ seventh_roots p ws
unfolding powers seventh_roots
roots_are [] w = refl
roots_are (y ∷ ws) w = cons_eq (sym (seventh_root_power y (w.at 0))) (roots_are ws (words_tail w))

pub are_roots : {ws : List ℕ} (r words : List ℕ) → Words p ws → Stand root_exponent ws r → words ≡ residues p r → words ≡ seventh_roots p ws
are_roots {ws} r words w h e = e ∙ h.same ∙ roots_are ws w

-- ---- blocks of four

pub products_four : (a b : List ℕ) {w x y z : ℕ} → w ≈⟨ p ⟩ get_or a 0 0 * get_or b 0 0 → x ≈⟨ p ⟩ get_or a 1 0 * get_or b 1 0
    → y ≈⟨ p ⟩ get_or a 2 0 * get_or b 2 0 → z ≈⟨ p ⟩ get_or a 3 0 * get_or b 3 0 → residues p (w ∷ x ∷ y ∷ z ∷ []) ≡ products p (four a) (four b)
unfolding products residues mul
products_four a b e f g h = four_eq e.same f.same g.same h.same

pub residues_four : (x : List ℕ) {a b c d : ℕ} → a ≡ get_or x 0 0 % p → b ≡ get_or x 1 0 % p → c ≡ get_or x 2 0 % p → d ≡ get_or x 3 0 % p
    → a ∷ b ∷ c ∷ d ∷ [] ≡ residues p (four x)
unfolding residues
residues_four x e f g h = four_eq e f g h

-- ---- a number alone, and as a list of one

pub number_none : (x : ℕ) → x ≈⟨ p ⟩ x ^ (2 ^ 0)
number_none x = eq≈ (sym (pow-one x))

pub number_more : (i x : ℕ) {r s : ℕ} → r ≈⟨ p ⟩ x ^ (2 ^ i) → s ≈⟨ p ⟩ r * r → s ≈⟨ p ⟩ x ^ (2 ^ (i + 1))
number_more i x h e = trans≈ e (trans≈ (mul≈ h h) (eq≈ (sym (pow-add x (2 ^ i) (2 ^ i)) ∙ ap (λ (n : ℕ). x ^ n) (twice i))))

pub number_times : (i n x y : ℕ) {r s : ℕ} → i ≡ n → r ≈⟨ p ⟩ x ^ (2 ^ i) → s ≈⟨ p ⟩ r * y → s ≈⟨ p ⟩ x ^ (2 ^ n) * y
number_times i n x y d h e = trans≈ e (mul≈ (trans≈ h (eq≈ (ap (λ (k : ℕ). x ^ (2 ^ k)) d))) (refl≈ {a = y}))

pub one_raised : (x n y r : ℕ) → r ≈⟨ p ⟩ x ^ (2 ^ n) * y → residues p (r ∷ []) ≡ products p (powers p (2 ^ n) (x ∷ [])) (y ∷ [])
unfolding products powers residues mul pow
one_raised x n y r h = cons_eq (trans≈ h (mul≈ (sym≈ (mod≈ (x ^ (2 ^ n)))) (refl≈ {a = y}))).same refl

pub one_stands : (w e r : ℕ) → r ≈⟨ p ⟩ w ^ e → Stand e (w ∷ []) (r ∷ [])
unfolding powers residues pow
one_stands w e r h = record { same = cons_eq h.same refl }

-- the root of what a number stands for
pub one_root : (y r : ℕ) → Stand root_exponent (y ∷ []) (r ∷ []) → r ≈⟨ p ⟩ seventh_root p (y % p)
unfolding powers residues pow
one_root y r h =
    let made : r ≈⟨ p ⟩ y ^ root_exponent = record { same = ap (λ (xs : List ℕ). get_or xs 0 0) h.same } in
    trans≈ made
    (trans≈ (pow≈ (sym≈ (mod≈ y)) root_exponent)
    (trans≈ (sym≈ (mod≈ ((y % p) ^ root_exponent))) (eq≈ (sym (seventh_root_power (y % p) (mod-lt y (lit< tt)))))))

-- and of a word, as a word
pub word_root : (y r : ℕ) → y < p → r ≈⟨ p ⟩ seventh_root p (y % p) → r % p ≡ seventh_root p y
unfolding pow
word_root y r w h =
    let same : seventh_root p (y % p) ≡ seventh_root p y = ap (seventh_root p) (mod-eq_of_lt w) in
    let power : seventh_root p y ≡ pow p y root_exponent = seventh_root_power y w in
    h.same ∙ ap (λ (n : ℕ). n % p) (same ∙ power) ∙ mod-mod (y ^ root_exponent) p ∙ sym power
