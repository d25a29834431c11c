-- Laws of parts, of a part put in place of another, of joined lists, of sums, of the tests on lists, and of the lowest number that a test accepts.
use mathlib.Core.Path.{◌≡◌, refl, sym, ap, ◌∙◌}
use mathlib.Core.Logic.{◌≢◌}
use mathlib.Core.Bool.{Bool, true, false, cond, false≢true, true≢false}
use mathlib.Core.List.{List, [], ◌∷◌, ◌++◌, append_assoc, append-nil}
use mathlib.Core.Option.{Option, none, some}
use Prim.Native.Nat.{ℕ, zero, suc, ◌+◌, ◌*◌, ◌-◌, ◌≤◌, ◌<◌}
use native.Mathlib.Nat.{add-suc, add-zero, suc-mul, zero-mul, mul-zero}
use native.Mathlib.Decide.{dec_lt}
use native.Mathlib.Omega.{arith}
use lib.Dec.{eqb}
use lib.ListN.{length, take, drop, get_or, length-append, length-drop, get_or-append}
use lib.Seq.{take_at, drop_at, take-append-le, drop-append-le, take-append-add, drop-append-add, drop-drop, take-take, take-add, length-take-le, drop-append_seam, take_all, take-length, drop-length, paste, get_or-append-add}
use borrow.Author.Tests.{eqb-true, eq-eqb}
use Rattle.modular.specs.Arithmetic.{all_words}
use Rattle.modular.proofs.Words.{words_append, words_take, words_drop, and_true, left_true, right_true}
use Rattle.merkle.specs.Lists.{part, put, joined, sum, same, or_else, lowest}

-- ---- parts

pub length_part : (i n : ℕ) (xs : List ℕ) → i + n ≤ length xs → length (part i n xs) ≡ n
length_part i n xs b = length-take-le n (drop i xs) (rw (length-drop i xs) (omega arith))

pub part_left : (i n : ℕ) (xs ys : List ℕ) → i + n ≤ length xs → part i n (xs ++ ys) ≡ part i n xs
part_left i n xs ys b =
    ap (take n) (drop-append-le i xs ys (omega arith))
    ∙ take-append-le n (drop i xs) ys (rw (length-drop i xs) (omega arith))

pub part_right : (i n m : ℕ) (xs ys : List ℕ) → length xs ≡ m → part (m + i) n (xs ++ ys) ≡ part i n ys
part_right i n m xs ys e = ap (take n) (ap (λ (a : ℕ). drop (a + i) (xs ++ ys)) (sym e) ∙ drop-append-add xs ys i)

pub part_whole : (n : ℕ) (xs : List ℕ) → length xs ≡ n → part 0 n xs ≡ xs
part_whole n xs e = take_all n xs (omega arith)

-- the middle one of three
pub part_middle : (n m : ℕ) (xs ys zs : List ℕ) → length xs ≡ m → length ys ≡ n → part m n (xs ++ (ys ++ zs)) ≡ ys
part_middle n m xs ys zs e f = ap (take n) (drop_at xs (ys ++ zs) m e) ∙ take_at ys zs n f

pub drop-take : (n m : ℕ) (xs : List ℕ) → n ≤ length xs → drop n (take (n + m) xs) ≡ take m (drop n xs)
drop-take n m xs b = ap (drop n) (take-add n m xs) ∙ drop_at (take n xs) (take m (drop n xs)) n (length-take-le n xs b)

pub part_take : (i n m : ℕ) (xs : List ℕ) → i + n ≤ m → m ≤ length xs → part i n (take m xs) ≡ part i n xs
part_take i n m xs a b =
    let e : m ≡ i + (m - i) = omega arith in
    ap (take n) (ap (λ (c : ℕ). drop i (take c xs)) e ∙ drop-take i (m - i) xs (omega arith)) ∙ take-take n (m - i) (drop i xs) (omega arith)

pub part_part : (i n j m : ℕ) (xs : List ℕ) → i + n ≤ m → j + m ≤ length xs → part i n (part j m xs) ≡ part (j + i) n xs
part_part i n j m xs a b =
    part_take i n m (drop j xs) a (omega (arith, length-drop j xs)) ∙ ap (take n) (drop-drop i j xs)

-- by index, in two joined lists
pub get_d_left : (i m : ℕ) (xs ys : List ℕ) → length xs ≡ m → i < m → get_or (xs ++ ys) i 0 ≡ get_or xs i 0
get_d_left i m xs ys e b = get_or-append xs ys 0 i (omega arith)

pub get_d_right : (i m : ℕ) (xs ys : List ℕ) → length xs ≡ m → get_or (xs ++ ys) (m + i) 0 ≡ get_or ys i 0
get_d_right i m xs ys e = ap (λ (a : ℕ). get_or (xs ++ ys) (a + i) 0) (sym e) ∙ get_or-append-add xs ys i 0

-- ---- a part put in place of another

-- what a loop leaves that copies v
pub put_paste : (xs : List ℕ) (i : ℕ) (v : List ℕ) → put xs i v ≡ paste xs i v (length v)
unfolding put
put_paste xs i v = rw (take-length v) (sym (append_assoc (take i xs) v (drop (i + length v) xs)))

module _ (xs : List ℕ) (i : ℕ) (v : List ℕ) (fits : i + length v ≤ length xs) where
  pub length-put : length (put xs i v) ≡ length xs
  unfolding put
  length-put =
      omega (
        arith,
        length-append (take i xs) (v ++ drop (i + length v) xs),
        length-append v (drop (i + length v) xs),
        length-drop (i + length v) xs,
        length-take-le i xs (omega arith),
      )

  pub put_append : (ys : List ℕ) → put (xs ++ ys) i v ≡ put xs i v ++ ys
  unfolding put
  put_append ys =
      rw (take-append-le i xs ys (omega arith), drop-append-le (i + length v) xs ys fits, append_assoc (take i xs) (v ++ drop (i + length v) xs) ys, append_assoc v (drop (i + length v) xs) ys)

  pub take_put : (m : ℕ) → m ≤ i → take m (put xs i v) ≡ take m xs
  unfolding put
  take_put m b =
      take-append-le m (take i xs) (v ++ drop (i + length v) xs) (omega (arith, length-take-le i xs (omega arith)))
      ∙ take-take m i xs b

  pub part_put : part i (length v) (put xs i v) ≡ v
  unfolding put
  part_put = part_middle (length v) i (take i xs) v (drop (i + length v) xs) (length-take-le i xs (omega arith)) refl

  drop-put_end : drop (i + length v) (put xs i v) ≡ drop (i + length v) xs
  unfolding put
  drop-put_end =
      sym (drop-drop (length v) i (put xs i v))
      ∙ ap (drop (length v)) (drop_at (take i xs) (v ++ drop (i + length v) xs) i (length-take-le i xs (omega arith)))
      ∙ drop-append_seam v (drop (i + length v) xs)

  pub drop-put : (m : ℕ) → i + length v ≤ m → drop m (put xs i v) ≡ drop m xs
  drop-put m b =
      let e : m ≡ i + length v + (m - (i + length v)) = omega arith in
      ap (λ (a : ℕ). drop a (put xs i v)) e
      ∙ sym (drop-drop (m - (i + length v)) (i + length v) (put xs i v))
      ∙ ap (drop (m - (i + length v))) drop-put_end
      ∙ drop-drop (m - (i + length v)) (i + length v) xs
      ∙ ap (λ (a : ℕ). drop a xs) (sym e)

  -- a part before, or behind, stays
  pub part_put_before : (j n : ℕ) → j + n ≤ i → part j n (put xs i v) ≡ part j n xs
  part_put_before j n b =
      sym (part_take j n i (put xs i v) b (omega (arith, length-put))) ∙ ap (part j n) (take_put i (omega arith)) ∙ part_take j n i xs b (omega arith)

  pub part_put_behind : (j n : ℕ) → i + length v ≤ j → part j n (put xs i v) ≡ part j n xs
  part_put_behind j n b = ap (take n) (drop-put j b)

pub append-put : (pre xs : List ℕ) (i : ℕ) (v : List ℕ) (m : ℕ) → length pre ≡ m → put (pre ++ xs) (m + i) v ≡ pre ++ put xs i v
unfolding put
append-put pre xs i v m e =
    let a : take (m + i) (pre ++ xs) ≡ pre ++ take i xs = ap (λ (c : ℕ). take (c + i) (pre ++ xs)) (sym e) ∙ take-append-add pre xs i in
    let f : m + i + length v ≡ length pre + (i + length v) = omega arith in
    let b : drop (m + i + length v) (pre ++ xs) ≡ drop (i + length v) xs = ap (λ (c : ℕ). drop c (pre ++ xs)) f ∙ drop-append-add pre xs (i + length v) in
    rw (a, b, append_assoc pre (take i xs) (v ++ drop (i + length v) xs))

-- into the middle one of three, and all of it
pub put_inside : (pre xs post : List ℕ) (i : ℕ) (v : List ℕ) (m : ℕ) → length pre ≡ m → i + length v ≤ length xs
    → put (pre ++ (xs ++ post)) (m + i) v ≡ pre ++ (put xs i v ++ post)
put_inside pre xs post i v m e b = append-put pre (xs ++ post) i v m e ∙ ap (λ (z : List ℕ). pre ++ z) (put_append xs i v b post)

pub put_whole : (xs v : List ℕ) → length v ≡ length xs → put xs 0 v ≡ v
unfolding put
put_whole xs v e =
    let z : 0 + length v ≡ length xs = omega arith in
    ap (λ (a : ℕ). v ++ drop a xs) z ∙ ap (λ (r : List ℕ). v ++ r) (drop-length xs) ∙ append-nil v

pub put_middle : (pre old post new : List ℕ) (m : ℕ) → length pre ≡ m → length new ≡ length old → put (pre ++ (old ++ post)) m new ≡ pre ++ (new ++ post)
put_middle pre old post new m e f =
    ap (λ (a : ℕ). put (pre ++ (old ++ post)) a new) (sym (add-zero m))
    ∙ put_inside pre old post 0 new m e (omega arith)
    ∙ ap (λ (z : List ℕ). pre ++ (z ++ post)) (put_whole old new f)

-- ---- joined lists

pub joined_same : (f g : ℕ → List ℕ) (n : ℕ) → ((i : ℕ) → i < n → f i ≡ g i) → joined f n ≡ joined g n
unfolding joined
joined_same f g zero e = refl
joined_same f g (suc n) e = ap (λ (z : List ℕ). z ++ f n) (joined_same f g n (λ i b. e i (omega arith))) ∙ ap (λ (z : List ℕ). joined g n ++ z) (e n (omega arith))

pub joined_add : (f : ℕ → List ℕ) (m n : ℕ) → joined f (m + n) ≡ joined f m ++ joined (λ i. f (m + i)) n
unfolding joined
joined_add f m zero = ap (joined f) (add-zero m) ∙ sym (append-nil (joined f m))
joined_add f m (suc n) =
    ap (joined f) (add-suc m n)
    ∙ ap (λ (z : List ℕ). z ++ f (m + n)) (joined_add f m n)
    ∙ append_assoc (joined f m) (joined (λ i. f (m + i)) n) (f (m + n))

-- those before the one of number j, that one, and those behind it
pub joined_at : (f : ℕ → List ℕ) (j n : ℕ) → j < n → joined f n ≡ joined f j ++ (f j ++ joined (λ i. f (suc j + i)) (n - suc j))
unfolding joined
joined_at f j n b =
    let e : n ≡ suc j + (n - suc j) = omega arith in
    ap (joined f) e ∙ joined_add f (suc j) (n - suc j) ∙ append_assoc (joined f j) (f j) (joined (λ i. f (suc j + i)) (n - suc j))

pub part_joined : (f : ℕ → List ℕ) (j n start len : ℕ) → j < n → length (joined f j) ≡ start → length (f j) ≡ len → part start len (joined f n) ≡ f j
part_joined f j n start len b e g =
    ap (part start len) (joined_at f j n b) ∙ part_middle len start (joined f j) (f j) (joined (λ i. f (suc j + i)) (n - suc j)) e g

pub length-joined_even : (f : ℕ → List ℕ) (m n : ℕ) → ((i : ℕ) → i < n → length (f i) ≡ m) → length (joined f n) ≡ n * m
unfolding joined
length-joined_even f m zero e = sym (zero-mul m)
length-joined_even f m (suc n) e =
    omega (arith, length-append (joined f n) (f n), length-joined_even f m n (λ i b. e i (omega arith)), e n (omega arith), suc-mul n m)

pub part_joined_even : (f : ℕ → List ℕ) (m j n : ℕ) → j < n → ((i : ℕ) → i < n → length (f i) ≡ m) → part (j * m) m (joined f n) ≡ f j
part_joined_even f m j n b e =
    part_joined f j n (j * m) m b (length-joined_even f m j (λ i c. e i (omega arith))) (e j b)

-- two that differ in number r alone
pub joined_put : (f g : ℕ → List ℕ) (m r n : ℕ) → r < n → ((i : ℕ) → i < n → length (f i) ≡ m) → length (g r) ≡ m
    → ((i : ℕ) → i < n → i ≢ r → g i ≡ f i) → joined g n ≡ put (joined f n) (r * m) (g r)
joined_put f g m r n b lf lg e =
    let before : joined g r ≡ joined f r = joined_same g f r (λ i c. e i (omega arith) (λ z. absurd (omega arith))) in
    let behind : joined (λ i. g (suc r + i)) (n - suc r) ≡ joined (λ i. f (suc r + i)) (n - suc r) =
    joined_same (λ i. g (suc r + i)) (λ i. f (suc r + i)) (n - suc r) (λ i c. e (suc r + i) (omega arith) (λ z. absurd (omega arith))) in
    let F : List ℕ = joined (λ i. f (suc r + i)) (n - suc r) in
    joined_at g r n b
    ∙ ap (λ (z : List ℕ). z ++ (g r ++ joined (λ i. g (suc r + i)) (n - suc r))) before
    ∙ ap (λ (z : List ℕ). joined f r ++ (g r ++ z)) behind
    ∙ sym (put_middle (joined f r) (f r) F (g r) (r * m) (length-joined_even f m r (λ i c. lf i (omega arith))) (lg ∙ sym (lf r b)))
    ∙ ap (λ (z : List ℕ). put z (r * m) (g r)) (sym (joined_at f r n b))

-- consecutive parts of one list
pub joined_parts : (i m : ℕ) (xs : List ℕ) (n : ℕ) → joined (λ a. part (i + a * m) m xs) n ≡ part i (n * m) xs
unfolding joined
joined_parts i m xs zero = ap (λ (a : ℕ). take a (drop i xs)) (sym (zero-mul m))
joined_parts i m xs (suc n) =
    ap (λ (z : List ℕ). z ++ part (i + n * m) m xs) (joined_parts i m xs n)
    ∙ ap (λ (z : List ℕ). part i (n * m) xs ++ take m z) (sym (drop-drop (n * m) i xs))
    ∙ sym (take-add (n * m) m (drop i xs))
    ∙ ap (λ (a : ℕ). take a (drop i xs)) (sym (suc-mul n m))

-- ---- sums

pub sum_same : (f g : ℕ → ℕ) (n : ℕ) → ((i : ℕ) → i < n → f i ≡ g i) → sum f n ≡ sum g n
unfolding sum
sum_same f g zero e = refl
sum_same f g (suc n) e = omega (arith, sum_same f g n (λ i b. e i (omega arith)), e n (omega arith))

pub sum-most : (f : ℕ → ℕ) (m n : ℕ) → ((i : ℕ) → i < n → f i ≤ m) → sum f n ≤ n * m
unfolding sum
sum-most f m zero b = omega (arith, zero-mul m)
sum-most f m (suc n) b = omega (arith, sum-most f m n (λ i c. b i (omega arith)), b n (omega arith), suc-mul n m)

pub sum-zero : (f : ℕ → ℕ) (n : ℕ) → ((i : ℕ) → i < n → f i ≡ 0) → sum f n ≡ 0
sum-zero f n e = omega (arith, sum-most f 0 n (λ i b. omega (arith, e i b)), mul-zero n)

pub sum_ones : (n : ℕ) → sum (λ i. 1) n ≡ n
unfolding sum
sum_ones zero = refl
sum_ones (suc n) = omega (arith, sum_ones n)

pub sum-add : (f : ℕ → ℕ) (m n : ℕ) → sum f (m + n) ≡ sum f m + sum (λ i. f (m + i)) n
unfolding sum
sum-add f m zero = let e : sum f (m + 0) ≡ sum f m = ap (sum f) (add-zero m) in omega arith
sum-add f m (suc n) =
    let e : sum f (m + suc n) ≡ sum f (suc (m + n)) = ap (sum f) (add-suc m n) in
    omega (arith, sum-add f m n)

sum-next : (f : ℕ → ℕ) (n : ℕ) → sum f (suc n) ≡ sum f n + f n
unfolding sum
sum-next f n = refl

-- two that differ in number r alone, and there by one
pub sum-fewer : (f g : ℕ → ℕ) (r n : ℕ) → r < n → ((i : ℕ) → i < n → i ≢ r → f i ≡ g i) → f r ≡ suc (g r) → sum f n ≡ suc (sum g n)
sum-fewer f g r n b e d =
    let at : n ≡ suc r + (n - suc r) = omega arith in
    let before : sum f r ≡ sum g r = sum_same f g r (λ i c. e i (omega arith) (λ z. absurd (omega arith))) in
    let behind : sum (λ i. f (suc r + i)) (n - suc r) ≡ sum (λ i. g (suc r + i)) (n - suc r) =
    sum_same (λ i. f (suc r + i)) (λ i. g (suc r + i)) (n - suc r) (λ i c. e (suc r + i) (omega arith) (λ z. absurd (omega arith))) in
    omega (arith, ap (sum f) at, ap (sum g) at, sum-add f (suc r) (n - suc r), sum-add g (suc r) (n - suc r), sum-next f r, sum-next g r)

-- ---- tests

pub same_test : (a b : Bool) → (a ≡ true → b ≡ true) → (b ≡ true → a ≡ true) → a ≡ b
same_test true b f g = sym (f refl)
same_test false true f g = g refl
same_test false false f g = refl

pub same_refl : (xs : List ℕ) → same xs xs ≡ true
unfolding same
same_refl [] = refl
same_refl (x ∷ xs) = and_true (eqb x x) (same xs xs) (eq-eqb x x refl) (same_refl xs)

pub same_true : (xs ys : List ℕ) → same xs ys ≡ true → xs ≡ ys
unfolding same
same_true [] [] e = refl
same_true [] (y ∷ ys) e = absurd (false≢true e)
same_true (x ∷ xs) [] e = absurd (false≢true e)
same_true (x ∷ xs) (y ∷ ys) e =
    let a : x ≡ y = eqb-true x y (left_true (eqb x y) (same xs ys) e) in
    let b : xs ≡ ys = same_true xs ys (right_true (eqb x y) (same xs ys) e) in
    cc

pub eq_same : (xs ys : List ℕ) → xs ≡ ys → same xs ys ≡ true
eq_same xs ys e = ap (same xs) (sym e) ∙ same_refl xs

pub ne_same : (xs ys : List ℕ) → xs ≢ ys → same xs ys ≡ false
ne_same xs ys n = go (same xs ys) refl
  where
    go : (t : Bool) → same xs ys ≡ t → same xs ys ≡ false
    go true e = absurd (n (same_true xs ys e))
    go false e = e

pub same_false : (xs ys : List ℕ) → same xs ys ≡ false → xs ≢ ys
same_false xs ys e z = true≢false (sym (eq_same xs ys z) ∙ e)

-- ---- words

module _ (p : ℕ) where
  pub words_part_lem : (i n : ℕ) (xs : List ℕ) → all_words p xs ≡ true → all_words p (part i n xs) ≡ true
  words_part_lem i n xs e = words_take p n (drop i xs) (words_drop p i xs e)

  pub words_put : (xs : List ℕ) (i : ℕ) (v : List ℕ) → all_words p xs ≡ true → all_words p v ≡ true → all_words p (put xs i v) ≡ true
  unfolding put
  words_put xs i v e f =
      words_append p (take i xs) (v ++ drop (i + length v) xs) (words_take p i xs e)
      (words_append p v (drop (i + length v) xs) f (words_drop p (i + length v) xs e))

  pub words_joined : (f : ℕ → List ℕ) (n : ℕ) → ((i : ℕ) → i < n → all_words p (f i) ≡ true) → all_words p (joined f n) ≡ true
  unfolding joined all_words
  words_joined f zero e = refl
  words_joined f (suc n) e = words_append p (joined f n) (f n) (words_joined f n (λ i b. e i (omega arith))) (e n (omega arith))

-- ---- the lowest number that a test accepts

-- what it says where it finds one, and where it finds none
pub record Lowest (test : ℕ → Bool) (n j : ℕ) : Type 0 where
  pub within : j < n
  pub accepted : test j ≡ true
  pub none_below : (i : ℕ) → i < j → test i ≡ false

abbrev pub Searched : (ℕ → Bool) → ℕ → Option ℕ → Type 0
Searched test n none = (i : ℕ) → i < n → test i ≡ false
Searched test n (some j) = Lowest test n j

pub searched : (test : ℕ → Bool) (n : ℕ) → Searched test n (lowest test n)
unfolding lowest
searched test zero = λ i b. absurd (omega arith)
searched test (suc n) = go (lowest test n) (test n) refl (searched test n)
  where
    up_to : test n ≡ false → ((i : ℕ) → i < n → test i ≡ false) → (i : ℕ) → i < suc n → test i ≡ false
    up_to t e i b = at (dec_lt i n)
      where
        at : Dec (i < n) → test i ≡ false
        at (yes c) = e i c
        at (no c) = let z : i ≡ n = omega arith in rw z t

    go : (o : Option ℕ) (t : Bool) → test n ≡ t → Searched test n o → Searched test (suc n) (or_else o (cond t (some n) none))
    go none true t e = record { within = omega arith; accepted = t; none_below = e }
    go none false t e = up_to t e
    go (some j) t u L = record { within = omega (arith, L.within); accepted = L.accepted; none_below = L.none_below }

-- as a search finds it that goes upwards
pub lowest_next : (test : ℕ → Bool) (n : ℕ) → lowest test n ≡ none → lowest test (suc n) ≡ cond (test n) (some n) none
unfolding lowest
lowest_next test n e = rw e

pub lowest_none : (test : ℕ → Bool) (n : ℕ) → ((i : ℕ) → i < n → test i ≡ false) → lowest test n ≡ none
unfolding lowest
lowest_none test zero e = refl
lowest_none test (suc n) e = rw (lowest_none test n (λ i b. e i (omega arith)), e n (omega arith))

pub lowest_some : (test : ℕ → Bool) (j n : ℕ) → j < n → test j ≡ true → ((i : ℕ) → i < j → test i ≡ false) → lowest test n ≡ some j
unfolding lowest
lowest_some test j zero b t e = absurd (omega arith)
lowest_some test j (suc n) b t e = go (dec_lt j n) (λ c. lowest_some test j n c t e)
  where
    go : Dec (j < n) → (j < n → lowest test n ≡ some j) → or_else (lowest test n) (cond (test n) (some n) none) ≡ some j
    go (yes c) ih = rw (ih c)
    go (no c) ih =
        let z : n ≡ j = omega arith in
        rw (z, lowest_none test j e, t)
