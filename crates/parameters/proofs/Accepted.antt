-- What holds of numbers and lists that are not refused.
use mathlib.Core.Path.{◌≡◌, refl, sym, ◌∙◌}
use mathlib.Core.Logic.{◌≢◌, inl, inr}
use mathlib.Core.Bool.{Bool, true, false, not, ◌&&◌, ◌||◌, false≢true}
use mathlib.Core.List.{List, [], ◌∷◌, ◌++◌}
use Prim.Native.Nat.{ℕ, ◌/◌, ◌%◌, ◌^◌, ◌≤◌}
use native.Mathlib.Nat.{mul-le-mul}
use native.Mathlib.Omega.{arith}
use lib.Dec.{eqb, ltb, lit<}
use lib.ListN.{length}
use borrow.Author.Tests.{eqb-true, eqb-false, ltb-false, not-false}
use Rattle.modular.specs.Arithmetic.{all_words}
use Rattle.modular.proofs.Words.{left_true, right_true}
use Rattle.refusals.specs.Table.{refusal, first_refusal}
use Rattle.refusals.proofs.Table.{Numbered, none, next, numbered_append, refusal_none, first_none}
use Rattle.poseidon2.specs.Inverse.{inverses, total_inverse}
use Rattle.poseidon2.specs.Statements.{Width}
use Rattle.kept.specs.Kept.{fits}
use Rattle.kept.proofs.Tested.{kept_are}
use Rattle.parameters.specs.Refusals.{bad_width, bad_node_size, bad_full_rounds, bad_partial_rounds, bad_height, constant_count, bad_lengths, several_zeros, bad_diagonal, bad_kept, number_refusals, shape_refusals, diagonal_refusals, list_refusals, used_refusals, word_refusals, kept_refusals, validation_refusals}
use Rattle.parameters.specs.ParameterSet.{prime_of, held_refusals, set_refusals}
use Rattle.parameters.specs.declared.ParameterSet.{ParameterSet}

-- of a test of two parts that fails neither holds
or_false : (a b : Bool) → (a || b) ≡ false → (a ≡ false) × (b ≡ false)
or_false true b e = absurd (false≢true (sym e))
or_false false b e = (refl, e)

pub width_of : (t : ℕ) → bad_width t ≡ false → Width t
unfolding bad_width
width_of t e = of (eqb t 4) (eqb t 8) (eqb t 12) refl refl refl (not-false (eqb t 4 || eqb t 8 || eqb t 12) e)
  where
    of : (a b c : Bool) → eqb t 4 ≡ a → eqb t 8 ≡ b → eqb t 12 ≡ c → (a || b || c) ≡ true → Width t
    of true b c ea eb ec h = inl (eqb-true t 4 ea)
    of false true c ea eb ec h = inr (inl (eqb-true t 8 eb))
    of false false c ea eb ec h = inr (inr (eqb-true t 12 (ec ∙ h)))

pub width_fits : (t : ℕ) → Width t → t ≤ 12
width_fits t (inl e) = omega arith
width_fits t (inr (inl e)) = omega arith
width_fits t (inr (inr e)) = omega arith

-- The node size divides the width, and the arity is 2 or more.
pub record NodeSize (t l : ℕ) : Type 0 where
  pub positive : l ≢ 0
  pub divides : t % l ≡ 0
  pub several : 2 ≤ t / l

pub node_size_of : (t l : ℕ) → bad_node_size t l ≡ false → NodeSize t l
unfolding bad_node_size
node_size_of t l e =
    let a = or_false (eqb l 0 || not (eqb (t % l) 0)) (ltb (t / l) 2) e in
    let b = or_false (eqb l 0) (not (eqb (t % l) 0)) a.0 in
    record {
      positive = eqb-false l 0 b.0;
      divides = eqb-true (t % l) 0 (not-false (eqb (t % l) 0) b.1);
      several = ltb-false (t / l) 2 a.1;
    }

-- The full rounds are even, 2 to 12, the partial ones at most 64.
pub record Rounds (rf rp : ℕ) : Type 0 where
  pub even : rf % 2 ≡ 0
  pub some : 2 ≤ rf
  pub few : rf ≤ 12
  pub few_partial : rp ≤ 64

pub rounds_of : (rf rp : ℕ) → bad_full_rounds rf ≡ false → bad_partial_rounds rp ≡ false → Rounds rf rp
unfolding bad_full_rounds bad_partial_rounds
rounds_of rf rp e f =
    let a = or_false (eqb (rf % 2) 1 || eqb rf 0) (ltb 12 rf) e in
    let b = or_false (eqb (rf % 2) 1) (eqb rf 0) a.0 in
    let odd : rf % 2 ≢ 1 = eqb-false (rf % 2) 1 b.0 in
    let nought : rf ≢ 0 = eqb-false rf 0 b.1 in
    record { even = omega arith; some = omega arith; few = ltb-false 12 rf a.1; few_partial = ltb-false 64 rp f }

-- The height is at most 32, and the leaves at most 2^32.
pub record Height (k h : ℕ) : Type 0 where
  pub low : h ≤ 32
  pub leaves : k ^ h ≤ 4294967296

pub height_of : (k h : ℕ) → bad_height k h ≡ false → Height k h
unfolding bad_height
height_of k h e =
    let a = or_false (ltb 32 h) (ltb (2 ^ 32) (k ^ h)) e in
    record { low = ltb-false 32 h a.0; leaves = ltb-false 4294967296 (k ^ h) a.1 }

-- The five numbers of an accepted set.
pub record Numbers (t l h rf rp : ℕ) : Type 0 where
  pub width : Width t
  pub node_size : NodeSize t l
  pub rounds : Rounds rf rp
  pub height : Height (t / l) h

pub count_fits : (t l h rf rp : ℕ) → Numbers t l h rf rp → constant_count t rf rp ≤ 208
unfolding constant_count
count_fits t l h rf rp N = omega (arith, mul-le-mul {n₁ = t} {m₁ = rf} {n₂ = 12} {m₂ = 12} (width_fits t N.width) N.rounds.few, N.rounds.few_partial)

-- The lists of an accepted set.
pub record Lists (p : ℕ) (D C : List ℕ) : Type 0 where
  pub diagonal : all_words p D ≡ true
  pub constants : all_words p C ≡ true
  pub few_zeros : several_zeros D ≡ false
  pub sum : bad_diagonal p D ≡ false

pub numbers_of_lem : (t l h rf rp : ℕ) → first_refusal (number_refusals t l h rf rp) ≡ 0 → Numbers t l h rf rp
unfolding number_refusals
numbers_of_lem t l h rf rp e =
    let r1 = refusal_none 0 (bad_width t) _ e in
    let r2 = refusal_none 1 (bad_node_size t l) _ r1.1 in
    let r3 = refusal_none 2 (bad_full_rounds rf) _ r2.1 in
    let r4 = refusal_none 3 (bad_partial_rounds rp) _ r3.1 in
    let r5 = refusal_none 4 (bad_height (t / l) h) _ r4.1 in
    record { width = width_of t r1.0; node_size = node_size_of t l r2.0; rounds = rounds_of rf rp r3.0 r4.0; height = height_of (t / l) h r5.0 }

pub numbers_numbered : (t l h rf rp : ℕ) → Numbered (number_refusals t l h rf rp)
unfolding number_refusals
numbers_numbered t l h rf rp = next (lit< tt) (next (lit< tt) (next (lit< tt) (next (lit< tt) (next (lit< tt) none))))

-- neither 8 nor 9
pub diagonal_of : (p : ℕ) (D : List ℕ) → first_refusal (diagonal_refusals p D) ≡ 0 → (several_zeros D ≡ false) × (bad_diagonal p D ≡ false)
unfolding diagonal_refusals
diagonal_of p D e =
    let r8 = refusal_none 7 (several_zeros D) _ e in
    let r9 = refusal_none 8 (bad_diagonal p D) _ r8.1 in
    (r8.0, r9.0)

pub lists_of : (p : ℕ) (D C : List ℕ) → first_refusal (list_refusals p D C) ≡ 0 → Lists p D C
unfolding list_refusals
lists_of p D C e =
    let r7 = refusal_none 6 (not (all_words p D && all_words p C)) _ e in
    let r = diagonal_of p D r7.1 in
    let w = not-false (all_words p D && all_words p C) r7.0 in
    record { diagonal = left_true (all_words p D) (all_words p C) w; constants = right_true (all_words p D) (all_words p C) w; few_zeros = r.0; sum = r.1 }

-- The refusals of a set that is handed in.
pub lists_numbered : (p : ℕ) (D C : List ℕ) → Numbered (list_refusals p D C)
unfolding list_refusals diagonal_refusals
lists_numbered p D C = next (lit< tt) (next (lit< tt) (next (lit< tt) none))

-- What is kept is what is named, where 18 does not apply.
pub record Kept (p : ℕ) (D es : List ℕ) (k : ℕ) : Type 0 where
  pub inverses : es ≡ inverses p D
  pub total : k ≡ total_inverse p D

pub used_of : (p : ℕ) (D C es : List ℕ) (k : ℕ) → first_refusal (used_refusals p D C es k) ≡ 0 → Lists p D C × Kept p D es k
unfolding used_refusals bad_kept
used_of p D C es k e =
    let n = first_none (list_refusals p D C) (refusal 18 (bad_kept p D es k) ∷ []) (lists_numbered p D C) e in
    let f = kept_are p D es k (not-false (fits p D es k) (refusal_none 17 (bad_kept p D es k) [] n.1).0) in
    (lists_of p D C n.0, record { inverses = f.0; total = f.1 })

pub used_numbered : (p : ℕ) (D C es : List ℕ) (k : ℕ) → Numbered (used_refusals p D C es k)
unfolding used_refusals
used_numbered p D C es k = numbered_append (lists_numbered p D C) (next (lit< tt) none)

pub set-numbered : (s : ParameterSet) → Numbered (set_refusals s)
unfolding set_refusals held_refusals
set-numbered s = numbered_append (numbers_numbered _ _ _ _ _) (used_numbered (prime_of s) _ _ _ _)

-- 7 and 8 before 9, and before 9 and 18.
pub words_first : (p : ℕ) (D C : List ℕ) → list_refusals p D C ≡ word_refusals p D C ++ (refusal 9 (bad_diagonal p D) ∷ [])
unfolding list_refusals diagonal_refusals word_refusals
words_first p D C = refl

pub used_words_first : (p : ℕ) (D C es : List ℕ) (k : ℕ) → used_refusals p D C es k ≡ word_refusals p D C ++ kept_refusals p D es k
unfolding used_refusals list_refusals diagonal_refusals word_refusals kept_refusals
used_words_first p D C es k = refl

pub words_numbered : (p : ℕ) (D C : List ℕ) → Numbered (word_refusals p D C)
unfolding word_refusals
words_numbered p D C = next (lit< tt) (next (lit< tt) none)

-- a D that they leave is words
pub words_are : (p : ℕ) (D C : List ℕ) → first_refusal (word_refusals p D C) ≡ 0 → all_words p D ≡ true
unfolding word_refusals
words_are p D C e = left_true (all_words p D) (all_words p C) (not-false (all_words p D && all_words p C) (refusal_none 6 (not (all_words p D && all_words p C)) _ e).0)

pub shape_numbered : (t l h rf rp : ℕ) (D C : List ℕ) → Numbered (shape_refusals t l h rf rp D C)
unfolding shape_refusals
shape_numbered t l h rf rp D C = numbered_append (numbers_numbered _ _ _ _ _) (next (lit< tt) none)

-- Validation goes by the shape's refusals, then by the lists'.
pub shape_first : (p t l h rf rp : ℕ) (D C : List ℕ) → validation_refusals p t l h rf rp D C ≡ shape_refusals t l h rf rp D C ++ list_refusals p D C
unfolding validation_refusals shape_refusals number_refusals
shape_first p t l h rf rp D C = refl

-- Lists that pass have the lengths that the numbers say, and so the places that a set has for them.
pub record Shape (t l h rf rp : ℕ) (D C : List ℕ) : Type 0 where
  pub numbers : Numbers t l h rf rp
  pub diagonal : length D ≡ t
  pub constants : length C ≡ constant_count t rf rp

pub shape_of : (t l h rf rp : ℕ) (D C : List ℕ) → first_refusal (shape_refusals t l h rf rp D C) ≡ 0 → Shape t l h rf rp D C
unfolding shape_refusals bad_lengths
shape_of t l h rf rp D C e =
    let n = first_none (number_refusals t l h rf rp) (refusal 6 (bad_lengths t rf rp D C) ∷ []) (numbers_numbered t l h rf rp) e in
    let r6 = refusal_none 5 (bad_lengths t rf rp D C) [] n.1 in
    let b = not-false (eqb (length D) t && eqb (length C) (constant_count t rf rp)) r6.0 in
    record {
      numbers = numbers_of_lem t l h rf rp n.0;
      diagonal = eqb-true (length D) t (left_true (eqb (length D) t) (eqb (length C) (constant_count t rf rp)) b);
      constants = eqb-true (length C) (constant_count t rf rp) (right_true (eqb (length D) t) (eqb (length C) (constant_count t rf rp)) b);
    }

pub shape_fits : (t l h rf rp : ℕ) (D C : List ℕ) → first_refusal (shape_refusals t l h rf rp D C) ≡ 0 → (length D ≤ 12) × (length C ≤ 208)
shape_fits t l h rf rp D C e =
    let S = shape_of t l h rf rp D C e in
    (omega (arith, S.diagonal, width_fits t S.numbers.width), omega (arith, S.constants, count_fits t l h rf rp S.numbers))
