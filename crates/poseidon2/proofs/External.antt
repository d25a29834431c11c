-- M_E and its inverse undo one another: M4 by its integer inverse over 8, and the sum of the blocks by one law for any number of them.
use mathlib.Core.Path.{◌≡◌, refl, sym, ap, ap₂, subst, ◌∙◌}
use mathlib.Core.Logic.{inl, inr, ⊎_elim}
use mathlib.Core.List.{List, [], ◌∷◌, map}
use Prim.Native.Nat.{ℕ, zero, suc, ◌+◌, ◌*◌, ◌%◌, ◌<◌}
use native.Mathlib.Nat.{mod-eq_of_lt, mod-lt, zero-mod, one-mul}
use native.Mathlib.Numerals.{add-one}
use native.Mathlib.Omega.{arith}
use lib.ListN.{length, get_or, drop, length-map}
use Rattle.modular.specs.Arithmetic.{add, mul, inverse}
use Rattle.modular.specs.Congruence.{◌≈⟨◌⟩◌}
use Rattle.modular.specs.PrimeField.{PrimeField, PrimeLaws}
use Rattle.modular.proofs.Congruence.{mod≈, mul≈, rest≈}
use Rattle.modular.proofs.Ring.{Expr, var, num, ◌⊕◌, ◌⊗◌, rem, neg, same?, sames?, ring, rings, ring_by, nothing, by}
use Rattle.poseidon2.specs.Layers.{add_lists, dot, rows_times, m4_rows, m4, blocks, join_blocks, sum_blocks, add_to_each, mixed, external}
use Rattle.poseidon2.specs.Inverse.{negative, scaled, unm4_rows, unm4, unmixed, unexternal}
use Rattle.poseidon2.specs.Statements.{Width, Words, State, Undo}
use Rattle.poseidon2.proofs.Words.{cons_eq, words_tail, words_none, words_more, words_append, words_map, below, add_lists-words}
use Rattle.poseidon2.proofs.Internal.{unit}

-- ---- blocks

-- a block is four numbers
pub data Four : List ℕ → Type 0 where
  four : (a b c d : ℕ) → Four (a ∷ b ∷ c ∷ d ∷ [])

-- each of a list is a block
pub data Fours : List (List ℕ) → Type 0 where
  no_four : Fours []
  and_four : {b : List ℕ} {bs : List (List ℕ)} → Four b → Fours bs → Fours (b ∷ bs)

-- each is a block of words
pub data Blocks (p : ℕ) : List (List ℕ) → Type 0 where
  no_block : Blocks p []
  and_block : {b : List ℕ} {bs : List (List ℕ)} → Four b → Words p b → Blocks p bs → Blocks p (b ∷ bs)

fours : {p : ℕ} {bs : List (List ℕ)} → Blocks p bs → Fours bs
fours no_block = no_four
fours (and_block f w u) = and_four f (fours u)

pub four_eq : {a b c d e f g h : ℕ} → a ≡ e → b ≡ f → c ≡ g → d ≡ h → a ∷ b ∷ c ∷ d ∷ [] ≡ e ∷ f ∷ g ∷ h ∷ []
four_eq i j k l = cons_eq i (cons_eq j (cons_eq k (cons_eq l refl)))

pub blocks_join : {bs : List (List ℕ)} → Fours bs → blocks (join_blocks bs) ≡ bs
unfolding blocks join_blocks
blocks_join no_four = refl
blocks_join (and_four (four a b c d) u) = ap (λ (bs : List (List ℕ)). (a ∷ b ∷ c ∷ d ∷ []) ∷ bs) (blocks_join u)

join_length : {p : ℕ} {bs : List (List ℕ)} → Blocks p bs → length (join_blocks bs) ≡ 4 * length bs
unfolding join_blocks
join_length no_block = refl
join_length (and_block (four a b c d) w u) = omega (arith, join_length u)

join_words : {p : ℕ} → 0 < p → {bs : List (List ℕ)} → Blocks p bs → Words p (join_blocks bs)
unfolding join_blocks
join_words pos no_block = words_none pos
join_words pos (and_block {b} {bs} f w u) = words_append pos b (join_blocks bs) w (join_words pos u)

-- a list of 4 n numbers is n blocks
pub join_blocks_lem : (n : ℕ) (xs : List ℕ) → length xs ≡ 4 * n → join_blocks (blocks xs) ≡ xs
unfolding blocks join_blocks
join_blocks_lem n [] l = refl
join_blocks_lem n (a ∷ []) l = absurd (omega arith)
join_blocks_lem n (a ∷ b ∷ []) l = absurd (omega arith)
join_blocks_lem n (a ∷ b ∷ c ∷ []) l = absurd (omega arith)
join_blocks_lem zero (a ∷ b ∷ c ∷ d ∷ xs) l = absurd (omega arith)
join_blocks_lem (suc n) (a ∷ b ∷ c ∷ d ∷ xs) l = ap (λ (ys : List ℕ). a ∷ b ∷ c ∷ d ∷ ys) (join_blocks_lem n xs (omega arith))

pub blocks_length : (n : ℕ) (xs : List ℕ) → length xs ≡ 4 * n → length (blocks xs) ≡ n
unfolding blocks
blocks_length n [] l = omega arith
blocks_length n (a ∷ []) l = absurd (omega arith)
blocks_length n (a ∷ b ∷ []) l = absurd (omega arith)
blocks_length n (a ∷ b ∷ c ∷ []) l = absurd (omega arith)
blocks_length zero (a ∷ b ∷ c ∷ d ∷ xs) l = absurd (omega arith)
blocks_length (suc n) (a ∷ b ∷ c ∷ d ∷ xs) l = ap suc (blocks_length n xs (omega arith))

-- what undoes a map at each block undoes it at all
map_back : {p : ℕ} (f g : List ℕ → List ℕ) → ((b : List ℕ) → Four b → Words p b → g (f b) ≡ b) → {bs : List (List ℕ)} → Blocks p bs → map g (map f bs) ≡ bs
map_back f g h no_block = refl
map_back f g h (and_block {b} {bs} q w u) = ap₂ (λ (x : List ℕ) (y : List (List ℕ)). x ∷ y) (h b q w) (map_back f g h u)

module _ {p : ℕ} (pos : 0 < p) where
  blocks_words : (xs : List ℕ) → Words p xs → Blocks p (blocks xs)
  unfolding blocks
  blocks_words [] w = no_block
  blocks_words (a ∷ []) w = no_block
  blocks_words (a ∷ b ∷ []) w = no_block
  blocks_words (a ∷ b ∷ c ∷ []) w = no_block
  blocks_words (a ∷ b ∷ c ∷ d ∷ xs) w =
      and_block (four a b c d) (words_more pos (w.at 0) (words_more pos (w.at 1) (words_more pos (w.at 2) (words_more pos (w.at 3) (words_none pos)))))
      (blocks_words xs (words_tail (words_tail (words_tail (words_tail w)))))

  -- ---- M4

  rows_times-words : (rows : List (List ℕ)) (xs : List ℕ) → Words p (rows_times p rows xs)
  unfolding rows_times
  rows_times-words [] xs = words_none pos
  rows_times-words (row ∷ rows) xs = words_more pos (below pos (dot row xs)) (rows_times-words rows xs)

  m4_blocks_lem : (bs : List (List ℕ)) → Blocks p (map (m4 p) bs)
  unfolding m4 rows_times m4_rows
  m4_blocks_lem [] = no_block
  m4_blocks_lem (b ∷ bs) = and_block (four _ _ _ _) (rows_times-words m4_rows b) (m4_blocks_lem bs)

  unm4_blocks : (bs : List (List ℕ)) → Blocks p (map (unm4 p) bs)
  unfolding unm4 scaled rows_times unm4_rows mul
  unm4_blocks [] = no_block
  unm4_blocks (b ∷ bs) =
      and_block (four _ _ _ _) (words_map pos (mul p (inverse p (8 % p))) (λ x. below pos (inverse p (8 % p) * x)) (rows_times p (unm4_rows p) b)) (unm4_blocks bs)

  -- a matrix times expressions, as `dot` and `rows_times` have it
  abbrev dot_e : List Expr → List Expr → Expr
  dot_e [] xs = num 0
  dot_e (a ∷ row) xs = a ⊗ get_or xs 0 (num 0) ⊕ dot_e row (drop 1 xs)

  abbrev rows_e : List (List Expr) → List Expr → List Expr
  rows_e [] xs = []
  rows_e (row ∷ rows) xs = dot_e row xs ∷ rows_e rows xs

  abbrev m4_e : List Expr → List Expr
  m4_e xs =
      rows_e
      ((num 5 ∷ num 7 ∷ num 1 ∷ num 3 ∷ []) ∷ (num 4 ∷ num 6 ∷ num 1 ∷ num 1 ∷ []) ∷ (num 1 ∷ num 3 ∷ num 5 ∷ num 7 ∷ []) ∷ (num 1 ∷ num 1 ∷ num 4 ∷ num 6 ∷ []) ∷ []) xs

  abbrev unm4_e : List Expr → List Expr
  unm4_e xs =
      map (λ x. var 4 ⊗ rem x)
      (rows_e
      ((neg (num 1) ∷ num 3 ∷ neg (num 6) ∷ num 7 ∷ []) ∷ (num 1 ∷ neg (num 1) ∷ num 4 ∷ neg (num 5) ∷ []) ∷ (neg (num 6) ∷ num 7 ∷ neg (num 1) ∷ num 3 ∷ []) ∷ (num 4 ∷ neg (num 5) ∷ num 1 ∷ neg (num 1) ∷ []) ∷ []) xs)

  abbrev words4 : List Expr
  words4 = var 0 ∷ var 1 ∷ var 2 ∷ var 3 ∷ []

  -- each word times 8 and the inverse of 8
  abbrev eightfold : List Expr
  eightfold = map (λ x. var 4 ⊗ (num 8 ⊗ x)) words4

  module _ (h : 8 * inverse p (8 % p) ≈⟨ p ⟩ 1) where
    eighth : (x : ℕ) → x < p → inverse p (8 % p) * (8 * x) % p ≡ x
    unfolding same?
    eighth x b = rest≈ b (ring_by p (x ∷ inverse p (8 % p) ∷ []) (var 1 ⊗ (num 8 ⊗ var 0)) (var 0) (by (var 0) (num 8 ⊗ var 1) (num 1) h nothing) pos tt)

    m4_back : (b : List ℕ) → Four b → Words p b → unm4 p (m4 p b) ≡ b
    unfolding sames? m4 unm4 rows_times m4_rows unm4_rows dot scaled mul negative
    m4_back _ (four a b c d) w =
        rings p (a ∷ b ∷ c ∷ d ∷ inverse p (8 % p) ∷ []) (unm4_e (map rem (m4_e words4))) eightfold pos tt
        ∙ four_eq (eighth a (w.at 0)) (eighth b (w.at 1)) (eighth c (w.at 2)) (eighth d (w.at 3))

    m4_forth : (b : List ℕ) → Four b → Words p b → m4 p (unm4 p b) ≡ b
    unfolding sames? m4 unm4 rows_times m4_rows unm4_rows dot scaled mul negative
    m4_forth _ (four a b c d) w =
        rings p (a ∷ b ∷ c ∷ d ∷ inverse p (8 % p) ∷ []) (m4_e (map rem (unm4_e words4))) eightfold pos tt
        ∙ four_eq (eighth a (w.at 0)) (eighth b (w.at 1)) (eighth c (w.at 2)) (eighth d (w.at 3))

  -- ---- the sum of the blocks

  sum-four : {bs : List (List ℕ)} → Blocks p bs → Four (sum_blocks p bs)
  unfolding sum_blocks add_lists
  sum-four no_block = four 0 0 0 0
  sum-four (and_block (four a b c d) w u) = four _ _ _ _

  scaled_four : (k : ℕ) {s : List ℕ} → Four s → Four (scaled p k s)
  unfolding scaled
  scaled_four k (four a b c d) = four _ _ _ _

  add_to_each-blocks : (s : List ℕ) {bs : List (List ℕ)} → Blocks p bs → Blocks p (add_to_each p s bs)
  unfolding add_to_each add_lists
  add_to_each-blocks s no_block = no_block
  add_to_each-blocks s (and_block (four a b c d) w u) = and_block (four _ _ _ _) (add_lists-words pos (a ∷ b ∷ c ∷ d ∷ []) s) (add_to_each-blocks s u)

  add_to_each-length : (s : List ℕ) (bs : List (List ℕ)) → length (add_to_each p s bs) ≡ length bs
  unfolding add_to_each
  add_to_each-length s [] = refl
  add_to_each-length s (b ∷ bs) = ap suc (add_to_each-length s bs)

  add_none : (s : ℕ) → 0 ≡ add p 0 (mul p 0 s)
  unfolding same? add mul
  add_none s = sym (zero-mod p) ∙ (ring p (s ∷ []) (num 0) (num 0 ⊕ rem (num 0 ⊗ var 0)) pos tt).same

  add-more : (b s q n : ℕ) → add p (add p b s) (add p q (mul p n s)) ≡ add p (add p b q) (mul p (suc n) s)
  unfolding same? add mul
  add-more b s q n =
      (ring p (b ∷ s ∷ q ∷ n ∷ []) (rem (var 0 ⊕ var 1) ⊕ rem (var 2 ⊕ rem (var 3 ⊗ var 1))) (rem (var 0 ⊕ var 2) ⊕ rem ((var 3 ⊕ num 1) ⊗ var 1)) pos tt).same
      ∙ ap (λ (m : ℕ). ((b + q) % p + m * s % p) % p) (add-one n)

  add-blocks : {b s q : List ℕ} (n : ℕ) → Four b → Four s → Four q
      → add_lists p (add_lists p b s) (add_lists p q (scaled p n s)) ≡ add_lists p (add_lists p b q) (scaled p (suc n) s)
  unfolding add_lists scaled
  add-blocks n (four a b c d) (four e f g h) (four i j k l) =
      four_eq (add-more a e i n) (add-more b f j n) (add-more c g k n) (add-more d h l n)

  add_no_blocks : {s : List ℕ} → Four s → 0 ∷ 0 ∷ 0 ∷ 0 ∷ [] ≡ add_lists p (0 ∷ 0 ∷ 0 ∷ 0 ∷ []) (scaled p 0 s)
  unfolding add_lists scaled
  add_no_blocks (four a b c d) = four_eq (add_none a) (add_none b) (add_none c) (add_none d)

  -- s added to each of n blocks adds n times s to their sum
  sum-add_to_each : {s : List ℕ} {bs : List (List ℕ)} → Four s → Blocks p bs
      → sum_blocks p (add_to_each p s bs) ≡ add_lists p (sum_blocks p bs) (scaled p (length bs) s)
  unfolding sum_blocks add_to_each
  sum-add_to_each f no_block = add_no_blocks f
  sum-add_to_each {s} f (and_block {b} {bs} q w u) =
      ap (add_lists p (add_lists p b s)) (sum-add_to_each f u) ∙ add-blocks (length bs) q f (sum-four u)

  -- j times the sum of all added to each block, and then k times: nothing, where j + k + n j k is 0
  abbrev spread : ℕ → List (List ℕ) → List (List ℕ)
  spread k bs = add_to_each p (scaled p k (sum_blocks p bs)) bs

  module _ (j k n : ℕ) (h : j + k + n * j * k ≈⟨ p ⟩ 0) where
    word_back : (x w : ℕ) → x < p → add p (add p x (mul p j w)) (mul p k (add p w (mul p n (mul p j w)))) ≡ x
    unfolding same? add mul
    word_back x w b =
        rest≈ b (ring_by p (x ∷ w ∷ j ∷ k ∷ n ∷ [])
        (rem (var 0 ⊕ rem (var 2 ⊗ var 1)) ⊕ rem (var 3 ⊗ rem (var 1 ⊕ rem (var 4 ⊗ rem (var 2 ⊗ var 1))))) (var 0)
        (by (var 1) (var 2 ⊕ var 3 ⊕ var 4 ⊗ var 2 ⊗ var 3) (num 0) h nothing) pos tt)

    each_back : {s : List ℕ} {bs : List (List ℕ)} → Four s → Blocks p bs
        → add_to_each p (scaled p k (add_lists p s (scaled p n (scaled p j s)))) (add_to_each p (scaled p j s) bs) ≡ bs
    unfolding add_to_each add_lists scaled
    each_back f no_block = refl
    each_back (four e f g i) (and_block {b} {bs} (four a c d l) w u) =
        ap₂ (λ (x : List ℕ) (y : List (List ℕ)). x ∷ y)
        (four_eq (word_back a e (w.at 0)) (word_back c f (w.at 1)) (word_back d g (w.at 2)) (word_back l i (w.at 3)))
        (each_back (four e f g i) u)

    spread_back : {bs : List (List ℕ)} → Blocks p bs → length bs ≡ n → spread k (spread j bs) ≡ bs
    spread_back {bs} u l =
        ap (λ (x : List ℕ). add_to_each p (scaled p k x) (spread j bs))
        (sum-add_to_each (scaled_four j (sum-four u)) u ∙ ap (λ (m : ℕ). add_lists p (sum_blocks p bs) (scaled p m (scaled p j (sum_blocks p bs)))) l)
        ∙ each_back (sum-four u) u

  -- the layer's own sum is taken once
  scaled_one : (xs : List ℕ) → Words p xs → scaled p 1 xs ≡ xs
  unfolding scaled mul
  scaled_one [] w = refl
  scaled_one (x ∷ xs) w = cons_eq (ap (λ (y : ℕ). y % p) (one-mul x) ∙ mod-eq_of_lt (w.at 0)) (scaled_one xs (words_tail w))

  sum-words : {bs : List (List ℕ)} → Blocks p bs → Words p (sum_blocks p bs)
  unfolding sum_blocks
  sum-words no_block = words_more pos pos (words_more pos pos (words_more pos pos (words_more pos pos (words_none pos))))
  sum-words (and_block {b} {bs} q w u) = add_lists-words pos b (sum_blocks p bs)

  once : {bs : List (List ℕ)} → Blocks p bs → add_to_each p (sum_blocks p bs) bs ≡ spread 1 bs
  once {bs} u = ap (λ (s : List ℕ). add_to_each p s bs) (sym (scaled_one (sum_blocks p bs) (sum-words u)))

  mixed_blocks : {bs : List (List ℕ)} → Blocks p bs → Blocks p (mixed p bs)
  unfolding mixed
  mixed_blocks no_block = no_block
  mixed_blocks (and_block q w no_block) = and_block q w no_block
  mixed_blocks (and_block {b} q w (and_block {b = c} {bs} r v u)) = add_to_each-blocks (sum_blocks p (b ∷ c ∷ bs)) (and_block q w (and_block r v u))

  mixed_length : (bs : List (List ℕ)) → length (mixed p bs) ≡ length bs
  unfolding mixed
  mixed_length [] = refl
  mixed_length (b ∷ []) = refl
  mixed_length (b ∷ c ∷ bs) = add_to_each-length (sum_blocks p (b ∷ c ∷ bs)) (b ∷ c ∷ bs)

  -- minus the inverse of 1 + n
  abbrev part : ℕ → ℕ
  part n = negative p (inverse p ((1 + n) % p))

  unmixed_blocks : {bs : List (List ℕ)} → Blocks p bs → Blocks p (unmixed p bs)
  unfolding unmixed
  unmixed_blocks no_block = no_block
  unmixed_blocks (and_block q w no_block) = and_block q w no_block
  unmixed_blocks (and_block {b} q w (and_block {b = c} {bs} r v u)) =
      add_to_each-blocks (scaled p (part (length (b ∷ c ∷ bs))) (sum_blocks p (b ∷ c ∷ bs))) (and_block q w (and_block r v u))

  unmixed_length : (bs : List (List ℕ)) → length (unmixed p bs) ≡ length bs
  unfolding unmixed
  unmixed_length [] = refl
  unmixed_length (b ∷ []) = refl
  unmixed_length (b ∷ c ∷ bs) = add_to_each-length (scaled p (part (length (b ∷ c ∷ bs))) (sum_blocks p (b ∷ c ∷ bs))) (b ∷ c ∷ bs)

  -- several blocks: the layer adds the sum once, and its inverse takes the part
  abbrev Several : List (List ℕ) → Type 0
  Several bs = 1 < length bs

  mixed_several : {bs : List (List ℕ)} → Blocks p bs → Several bs → mixed p bs ≡ spread 1 bs
  unfolding mixed
  mixed_several no_block m = absurd (omega arith)
  mixed_several (and_block q w no_block) m = absurd (omega arith)
  mixed_several (and_block {b} q w (and_block {b = c} {bs} r v u)) m = once (and_block q w (and_block r v u))

  unmixed_several : {bs : List (List ℕ)} → Blocks p bs → Several bs → unmixed p bs ≡ spread (part (length bs)) bs
  unfolding unmixed
  unmixed_several no_block m = absurd (omega arith)
  unmixed_several (and_block q w no_block) m = absurd (omega arith)
  unmixed_several (and_block {b} q w (and_block {b = c} {bs} r v u)) m = refl

  -- n blocks and the (1 + n)-th part of their sum
  module _ (n : ℕ) (h : (1 + n) * inverse p ((1 + n) % p) ≈⟨ p ⟩ 1) where
    part_back : 1 + part n + n * 1 * part n ≈⟨ p ⟩ 0
    unfolding same? negative
    part_back =
        ring_by p (inverse p ((1 + n) % p) ∷ n ∷ []) (num 1 ⊕ neg (var 0) ⊕ var 1 ⊗ num 1 ⊗ neg (var 0)) (num 0)
        (by (neg (num 1)) ((num 1 ⊕ var 1) ⊗ var 0) (num 1) h nothing) pos tt

    part_forth : part n + 1 + n * part n * 1 ≈⟨ p ⟩ 0
    unfolding same? negative
    part_forth =
        ring_by p (inverse p ((1 + n) % p) ∷ n ∷ []) (neg (var 0) ⊕ num 1 ⊕ var 1 ⊗ neg (var 0) ⊗ num 1) (num 0)
        (by (neg (num 1)) ((num 1 ⊕ var 1) ⊗ var 0) (num 1) h nothing) pos tt

    several_back : {bs : List (List ℕ)} → Blocks p bs → length bs ≡ n → Several bs → unmixed p (mixed p bs) ≡ bs
    several_back {bs} u l m =
        let e : length (spread 1 bs) ≡ length bs = add_to_each-length (scaled p 1 (sum_blocks p bs)) bs in
        ap (unmixed p) (mixed_several u m)
        ∙ unmixed_several (add_to_each-blocks (scaled p 1 (sum_blocks p bs)) u) (subst (λ (i : ℕ). 1 < i) (sym e) m)
        ∙ ap (λ (i : ℕ). spread (part i) (spread 1 bs)) (e ∙ l)
        ∙ spread_back 1 (part n) n part_back u l

    several_forth : {bs : List (List ℕ)} → Blocks p bs → length bs ≡ n → Several bs → mixed p (unmixed p bs) ≡ bs
    several_forth {bs} u l m =
        let e : length (spread (part n) bs) ≡ length bs = add_to_each-length (scaled p (part n) (sum_blocks p bs)) bs in
        ap (mixed p) (unmixed_several u m ∙ ap (λ (i : ℕ). spread (part i) bs) l)
        ∙ mixed_several (add_to_each-blocks (scaled p (part n) (sum_blocks p bs)) u) (subst (λ (i : ℕ). 1 < i) (sym e) m)
        ∙ spread_back (part n) 1 n part_forth u l

    mixed_back : {bs : List (List ℕ)} → Blocks p bs → length bs ≡ n → unmixed p (mixed p bs) ≡ bs
    unfolding mixed unmixed
    mixed_back no_block l = refl
    mixed_back (and_block q w no_block) l = refl
    mixed_back (and_block q w (and_block r v u)) l = several_back (and_block q w (and_block r v u)) l (omega arith)

    mixed_forth : {bs : List (List ℕ)} → Blocks p bs → length bs ≡ n → mixed p (unmixed p bs) ≡ bs
    unfolding mixed unmixed
    mixed_forth no_block l = refl
    mixed_forth (and_block q w no_block) l = refl
    mixed_forth (and_block q w (and_block r v u)) l = several_forth (and_block q w (and_block r v u)) l (omega arith)

  -- ---- the layer

  -- states of n blocks give states of n blocks, whatever the numbers
  external_of_blocks : (n : ℕ) (xs : List ℕ) → length xs ≡ 4 * n → State p (4 * n) (external p xs)
  unfolding external
  external_of_blocks n xs l =
      let u : Blocks p (mixed p (map (m4 p) (blocks xs))) = mixed_blocks (m4_blocks_lem (blocks xs)) in
      record {
        width = join_length u ∙ ap (λ (i : ℕ). 4 * i) (mixed_length (map (m4 p) (blocks xs)) ∙ length-map (blocks xs) (m4 p) ∙ blocks_length n xs l);
        words = join_words pos u;
      }

  unexternal_of_blocks : (n : ℕ) (ys : List ℕ) → length ys ≡ 4 * n → State p (4 * n) (unexternal p ys)
  unfolding unexternal
  unexternal_of_blocks n ys l =
      let u : Blocks p (map (unm4 p) (unmixed p (blocks ys))) = unm4_blocks (unmixed p (blocks ys)) in
      record {
        width = join_length u ∙ ap (λ (i : ℕ). 4 * i) (length-map (unmixed p (blocks ys)) (unm4 p) ∙ unmixed_length (blocks ys) ∙ blocks_length n ys l);
        words = join_words pos u;
      }

  module _ (n : ℕ) (h : 8 * inverse p (8 % p) ≈⟨ p ⟩ 1) (g : (1 + n) * inverse p ((1 + n) % p) ≈⟨ p ⟩ 1) where
    external_back : (xs : List ℕ) → State p (4 * n) xs → unexternal p (external p xs) ≡ xs
    unfolding external unexternal
    external_back xs s =
        let u : Blocks p (map (m4 p) (blocks xs)) = m4_blocks_lem (blocks xs) in
        ap (λ (bs : List (List ℕ)). join_blocks (map (unm4 p) (unmixed p bs))) (blocks_join (fours (mixed_blocks u)))
        ∙ ap (λ (bs : List (List ℕ)). join_blocks (map (unm4 p) bs)) (mixed_back n g u (length-map (blocks xs) (m4 p) ∙ blocks_length n xs s.width))
        ∙ ap join_blocks (map_back (m4 p) (unm4 p) (m4_back h) (blocks_words xs s.words))
        ∙ join_blocks_lem n xs s.width

    external_forth : (ys : List ℕ) → State p (4 * n) ys → external p (unexternal p ys) ≡ ys
    unfolding external unexternal
    external_forth ys s =
        let u : Blocks p (blocks ys) = blocks_words ys s.words in
        ap (λ (bs : List (List ℕ)). join_blocks (mixed p (map (m4 p) bs))) (blocks_join (fours (unm4_blocks (unmixed p (blocks ys)))))
        ∙ ap (λ (bs : List (List ℕ)). join_blocks (mixed p bs)) (map_back (unm4 p) (m4 p) (m4_forth h) (unmixed_blocks u))
        ∙ ap join_blocks (mixed_forth n g u (blocks_length n ys s.width))
        ∙ join_blocks_lem n ys s.width

    undo_blocks : Undo p (4 * n) (external p) (unexternal p)
    undo_blocks = record {
      to = λ xs s. external_of_blocks n xs s.width;
      from = λ ys s. unexternal_of_blocks n ys s.width;
      back = external_back;
      forth = external_forth;
    }

-- ---- the widths

-- each width is that of n blocks
pub by_width : {t : ℕ} (P : ℕ → Type 0) → Width t → P 4 → P 8 → P 12 → P t
by_width P (inl e) f g h = subst P (sym e) f
by_width P (inr (inl e)) f g h = subst P (sym e) g
by_width P (inr (inr e)) f g h = subst P (sym e) h

pub external_state : {p t : ℕ} → 0 < p → Width t → (xs : List ℕ) → length xs ≡ t → State p t (external p xs)
external_state {p} {t} pos w xs l =
    by_width (λ t. length xs ≡ t → State p t (external p xs)) w (external_of_blocks pos 1 xs) (external_of_blocks pos 2 xs) (external_of_blocks pos 3 xs) l

-- 2, 3, 4 and 8 have inverses modulo every prime above 3
module _ {p : ℕ} (F : PrimeField p) (L : PrimeLaws p F) where
  product_nonzero : (a b : ℕ) → 0 < a % p → 0 < b % p → 0 < a * b % p
  unfolding mul
  product_nonzero a b ha hb =
      let pos : 0 < p = omega (arith, F.fermat.above) in
      let none : a * b % p ≡ 0 → ⊥ =
      λ e. ⊎_elim (λ z. omega arith) (λ z. omega arith)
      (L.no_zero_divisors (a % p) (b % p) (mod-lt a pos) (mod-lt b pos) ((mul≈ (mod≈ a) (mod≈ b)).same ∙ e)) in
      native.Mathlib.Nat.pos_of_ne-zero none

  two : 0 < 2 % p
  two = subst (λ (x : ℕ). 0 < x) (sym (mod-eq_of_lt (omega (arith, F.fermat.above)))) (omega arith)

  three : 0 < 3 % p
  three = subst (λ (x : ℕ). 0 < x) (sym (mod-eq_of_lt F.fermat.above)) (omega arith)

  inverse_of : (n : ℕ) → 0 < n % p → n * inverse p (n % p) ≈⟨ p ⟩ 1
  inverse_of = unit L.inverses F.fermat.above

  pub undo_external : (t : ℕ) → Width t → Undo p t (external p) (unexternal p)
  undo_external t w =
      let pos : 0 < p = omega (arith, F.fermat.above) in
      let eight : 8 * inverse p (8 % p) ≈⟨ p ⟩ 1 = inverse_of 8 (product_nonzero 2 4 two (product_nonzero 2 2 two two)) in
      by_width (λ t. Undo p t (external p) (unexternal p)) w
      (undo_blocks pos 1 eight (inverse_of 2 two))
      (undo_blocks pos 2 eight (inverse_of 3 three))
      (undo_blocks pos 3 eight (inverse_of 4 (product_nonzero 2 2 two two)))
