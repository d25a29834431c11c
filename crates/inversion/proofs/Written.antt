-- A state written by its blocks of four, and constants taken off.
use mathlib.Core.Path.{◌≡◌, refl, sym, ap, ap₂, ◌∙◌}
use mathlib.Core.List.{List, [], ◌∷◌, ◌++◌}
use Prim.Native.Nat.{ℕ, suc, ◌+◌, ◌≤◌}
use native.Mathlib.Omega.{arith}
use lib.ListN.{length, get_or, take, drop, length-append, length-drop}
use lib.Seq.{take_at, take_all, length-take-le, drop-drop}
use Rattle.modular.specs.Arithmetic.{sub}
use Rattle.poseidon2.specs.Inverse.{sub_lists}
use Rattle.poseidon2.proofs.Words.{cons_eq}
use Rattle.poseidon2.proofs.Places.{first_at, rest_at}
use Rattle.blocks.specs.Blocks.{four}
use Rattle.blocks.proofs.Lists.{four_eq}
use Rattle.inversion.proofs.Blocks as blocks

-- the first i numbers of a state of t are xs
pub record Written (t i : ℕ) (xs st : List ℕ) : Type 0 where
  pub width : length st ≡ t
  pub front : take i st ≡ xs

pub written_none : (st : List ℕ) → Written (length st) 0 [] st
written_none st = record { width = refl; front = refl }

pub written_more : {t i : ℕ} {xs st : List ℕ} (b next : List ℕ) → Written t i xs st → length b ≡ 4 → i + 4 ≤ t
    → next ≡ take i st ++ b ++ drop (i + 4) st → Written t (i + 4) (xs ++ four b) next
written_more {t} {i} {xs} {st} b next w l h e =
    let front : List ℕ = take i st ++ b in
    let long : length front ≡ i + 4 = length-append (take i st) b ∙ ap₂ (λ (m n : ℕ). m + n) (length-take-le i st (omega (arith, w.width))) l in
    record {
      width = ap length e ∙ length-append front (drop (i + 4) st) ∙ omega (arith, long, length-drop (i + 4) st, w.width);
      front = ap (take (i + 4)) e ∙ take_at front (drop (i + 4) st) (i + 4) long ∙ ap₂ (λ (l m : List ℕ). l ++ m) w.front (blocks.four b l);
    }

pub written_all : {t i : ℕ} {xs st : List ℕ} → Written t i xs st → t ≤ i → st ≡ xs
written_all {t} {i} {xs} {st} w h = sym (take_all i st (omega (arith, w.width))) ∙ w.front

-- a block less its constants, and others
sub-append : (p : ℕ) (xs ys cs : List ℕ) → sub_lists p xs cs ++ sub_lists p ys (drop (length xs) cs) ≡ sub_lists p (xs ++ ys) cs
unfolding sub_lists
sub-append p [] ys cs = refl
sub-append p (x ∷ xs) ys cs =
    let n : suc (length xs) ≡ 1 + length xs = omega arith in
    cons_eq refl
    (ap (λ (ds : List ℕ). sub_lists p xs (drop 1 cs) ++ sub_lists p ys ds) (ap (λ (m : ℕ). drop m cs) n ∙ sym (drop-drop (length xs) 1 cs))
    ∙ sub-append p xs ys (drop 1 cs))

pub less_more : (p : ℕ) (b xs C : List ℕ) (k : ℕ) → sub_lists p (four b) (drop k C) ++ sub_lists p xs (drop (k + 4) C) ≡ sub_lists p (four b ++ xs) (drop k C)
less_more p b xs C k =
    ap (λ (cs : List ℕ). sub_lists p (four b) (drop k C) ++ sub_lists p xs cs) (sym (drop-drop 4 k C)) ∙ sub-append p (four b) xs (drop k C)

-- the constants from place i on, taken off
abbrev sub_at : ℕ → List ℕ → ℕ → List ℕ → List ℕ
sub_at p cs i [] = []
sub_at p cs i (x ∷ xs) = sub p x (get_or cs i 0) ∷ sub_at p cs (suc i) xs

sub_at_lem : (p : ℕ) (cs : List ℕ) (i : ℕ) (xs : List ℕ) → sub_lists p xs (drop i cs) ≡ sub_at p cs i xs
unfolding sub_lists
sub_at_lem p cs i [] = refl
sub_at_lem p cs i (x ∷ xs) = cons_eq (ap (sub p x) (first_at cs i)) (ap (sub_lists p xs) (rest_at cs i) ∙ sub_at_lem p cs (suc i) xs)

pub less_four : (p : ℕ) (b C : List ℕ) (k : ℕ) {w x y z : ℕ}
    → w ≡ sub p (get_or b 0 0) (get_or C k 0) → x ≡ sub p (get_or b 1 0) (get_or C (k + 1) 0) → y ≡ sub p (get_or b 2 0) (get_or C (k + 2) 0)
    → z ≡ sub p (get_or b 3 0) (get_or C (k + 3) 0) → w ∷ x ∷ y ∷ z ∷ [] ≡ sub_lists p (four b) (drop k C)
less_four p b C k e f g h =
    four_eq e (f ∙ at 1 (k + 1) (suc k) (omega arith)) (g ∙ at 2 (k + 2) (suc (suc k)) (omega arith)) (h ∙ at 3 (k + 3) (suc (suc (suc k))) (omega arith))
    ∙ sym (sub_at_lem p C k (four b))
  where
    at : (n i j : ℕ) → i ≡ j → sub p (get_or b n 0) (get_or C i 0) ≡ sub p (get_or b n 0) (get_or C j 0)
    at n i j d = ap (λ (m : ℕ). sub p (get_or b n 0) (get_or C m 0)) d
