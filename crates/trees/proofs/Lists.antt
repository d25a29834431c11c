-- Words copied into a list, one part behind the other.
use mathlib.Core.Path.{◌≡◌, refl, sym, ap, ap₂, ◌∙◌}
use mathlib.Core.Bool.{Bool, true, false, ◌&&◌}
use mathlib.Core.List.{List, [], ◌∷◌, ◌++◌, append_assoc}
use Prim.Native.Nat.{ℕ, ◌+◌, ◌≤◌}
use native.Mathlib.Omega.{arith}
use lib.ListN.{length, take, drop, length-append, length-drop}
use lib.Seq.{paste, take-take, take-add, drop-drop}
use Rattle.modular.specs.Arithmetic.{is_word, all_words}
use Rattle.merkle.specs.Lists.{part, put}
use Rattle.merkle.proofs.Lists.{put_paste, length-put, length_part, take_put, part_put, drop-take, eq_same, ne_same}

-- what a loop leaves that copies n words
pub copied : (xs : List ℕ) (to : ℕ) (source : List ℕ) (from n : ℕ) → from + n ≤ length source → paste xs to (drop from source) n ≡ put xs to (part from n source)
copied xs to source from n b =
    let v : List ℕ = part from n source in
    let e : length v ≡ n = length_part from n source b in
    let s : n ≤ n = omega arith in
    sym
    (put_paste xs to v
    ∙ ap (paste xs to v) e
    ∙ ap (λ (z : List ℕ). take to xs ++ z ++ drop (to + n) xs) (take-take n n (drop from source) s))

pub put_length : (xs : List ℕ) (to : ℕ) (source : List ℕ) (from n : ℕ) → from + n ≤ length source → to + n ≤ length xs → length (put xs to (part from n source)) ≡ length xs
put_length xs to source from n b c = length-put xs to (part from n source) (omega (arith, length_part from n source b))

-- the words up to the end of what is put
pub take-put_next : (xs : List ℕ) (i : ℕ) (v : List ℕ) (n : ℕ) → length v ≡ n → i + n ≤ length xs → take (i + n) (put xs i v) ≡ take i xs ++ v
take-put_next xs i v n e b =
    let ok : i + length v ≤ length xs = omega arith in
    take-add i n (put xs i v)
    ∙ ap₂ (λ (a c : List ℕ). a ++ c) (take_put xs i v ok i (omega arith)) (ap (λ (m : ℕ). part i m (put xs i v)) (sym e) ∙ part_put xs i v ok)

-- two parts put one behind the other
pub put_put : (xs : List ℕ) (i : ℕ) (u v : List ℕ) (n : ℕ) → length u ≡ n → i + (n + length v) ≤ length xs → put (put xs i u) (i + n) v ≡ put xs i (u ++ v)
unfolding put
put_put xs i u v n e b =
    let X : List ℕ = put xs i u in
    let f : take (i + n) X ≡ take i xs ++ u = take-put_next xs i u n e (omega arith) in
    let m : i + n + length v ≡ i + length (u ++ v) = omega (arith, length-append u v) in
    let k : i + length (u ++ v) ≡ i + length u + length v = omega (arith, length-append u v) in
    let ok : i + length u ≤ length xs = omega arith in
    let g : drop (i + n + length v) X ≡ drop (i + length (u ++ v)) xs =
    ap (λ (a : ℕ). drop a X) m ∙ Rattle.merkle.proofs.Lists.drop-put xs i u ok (i + length (u ++ v)) (omega arith) in
    ap₂ (λ (a c : List ℕ). a ++ (v ++ c)) f g
    ∙ append_assoc (take i xs) u (v ++ drop (i + length (u ++ v)) xs)
    ∙ ap (λ (z : List ℕ). take i xs ++ z) (sym (append_assoc u v (drop (i + length (u ++ v)) xs)))

-- a part without the m words from n on
pub part_without : (n m r : ℕ) (xs : List ℕ) (i : ℕ) → i + (n + m + r) ≤ length xs
    → take n (part i (n + m + r) xs) ++ drop (n + m) (part i (n + m + r) xs) ≡ part i n xs ++ part (i + n + m) r xs
part_without n m r xs i b =
    let s : i + n + m ≡ i + (n + m) = omega arith in
    ap₂ (λ (a c : List ℕ). a ++ c) (take-take n (n + m + r) (drop i xs) (omega arith))
    (drop-take (n + m) r (drop i xs) (omega (arith, length-drop i xs)) ∙ ap (take r) (drop-drop (n + m) i xs) ∙ ap (λ (a : ℕ). part a r xs) (sym s))

-- a test of two lists' words
pub words_both : (p : ℕ) (xs ys : List ℕ) → all_words p (xs ++ ys) ≡ (all_words p xs && all_words p ys)
unfolding all_words
words_both p [] ys = refl
words_both p (x ∷ xs) ys = ap (λ (b : Bool). is_word p x && b) (words_both p xs ys) ∙ and_assoc (is_word p x) (all_words p xs) (all_words p ys)
  where
    and_assoc : (a b c : Bool) → (a && (b && c)) ≡ ((a && b) && c)
    and_assoc true b c = refl
    and_assoc false b c = refl

-- what is put at the head
pub head_put : (xs v : List ℕ) (n : ℕ) → length v ≡ n → n ≤ length xs → take n (put xs 0 v) ≡ v
head_put xs v n e b =
    let z : n ≡ 0 + n = omega arith in
    ap (λ (m : ℕ). take m (put xs 0 v)) z ∙ take-put_next xs 0 v n e (omega arith)
