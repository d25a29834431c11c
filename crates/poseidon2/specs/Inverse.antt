-- The inverse permutation (Rules 7.2, 7.3). Each step undoes one of the permutation's, the last first. That they do is claimed in
-- Statements.
use Rattle.std.specs.Prelude.{cond, List, [], ◌∷◌, map, ℕ, zero, suc, ◌+◌, ◌*◌, ◌-◌, ◌%◌, eqb, length, get_or, take, drop, set}
use Rattle.modular.specs.Arithmetic.{sub, mul, inverse, seventh_root}
use Rattle.poseidon2.specs.Layers.{sum, dot, rows_times, blocks, join_blocks, sum_blocks, add_to_each}

-- What stands for -n modulo p.
unfoldable pub negative : ℕ → ℕ → ℕ
negative p n = p - n % p

-- Every word k times.
unfoldable pub scaled : ℕ → ℕ → List ℕ → List ℕ
scaled p k xs = map (mul p k) xs

-- The matrix whose product with M4, in either order, is 8 at every place of the diagonal and 0 elsewhere.
unfoldable pub unm4_rows : ℕ → List (List ℕ)
unm4_rows p =
    (negative p 1 ∷ 3 ∷ negative p 6 ∷ 7 ∷ []) ∷
    (1 ∷ negative p 1 ∷ 4 ∷ negative p 5 ∷ []) ∷
    (negative p 6 ∷ 7 ∷ negative p 1 ∷ 3 ∷ []) ∷
    (4 ∷ negative p 5 ∷ 1 ∷ negative p 1 ∷ []) ∷ []

unfoldable pub unm4 : ℕ → List ℕ → List ℕ
unm4 p block = scaled p (inverse p (8 % p)) (rows_times p (unm4_rows p) block)

-- The sum of n blocks that each got the sum S of all is n + 1 times S: so the (n + 1)-th part of it is taken from each.
unfoldable pub unmixed : ℕ → List (List ℕ) → List (List ℕ)
unmixed p [] = []
unmixed p (b ∷ []) = b ∷ []
unmixed p (b ∷ c ∷ bs) =
    let n = length (b ∷ c ∷ bs) in
    add_to_each p (scaled p (negative p (inverse p ((1 + n) % p))) (sum_blocks p (b ∷ c ∷ bs))) (b ∷ c ∷ bs)

-- M_E undone.
unfoldable pub unexternal : ℕ → List ℕ → List ℕ
unexternal p ys = join_blocks (map (unm4 p) (unmixed p (blocks ys)))

unfoldable pub inverses : ℕ → List ℕ → List ℕ
inverses p D = map (inverse p) D

-- e_i times what s leaves of word i, for each word.
unfoldable pub multiples_less : ℕ → ℕ → List ℕ → List ℕ → List ℕ
multiples_less p s es [] = []
multiples_less p s es (y ∷ ys) = mul p (get_or es 0 0) (sub p y s) ∷ multiples_less p s (drop 1 es) ys

-- How many words of a list are 0.
unfoldable pub zeros : List ℕ → ℕ
zeros [] = 0
zeros (d ∷ D) = cond (eqb d 0) (1 + zeros D) (zeros D)

-- The place of the first 0, and the length of a list that has none.
unfoldable pub zero_place : List ℕ → ℕ
zero_place [] = 0
zero_place (d ∷ D) = cond (eqb d 0) 0 (1 + zero_place D)

-- The inverse of 1 plus the inverses of all words, and 0 where one of the words is 0 (Rules 2.9).
unfoldable pub total_inverse : ℕ → List ℕ → ℕ
total_inverse p D = cond (eqb (zeros D) 0) (inverse p ((1 + sum (inverses p D)) % p)) 0

-- M_I undone where no D_i is 0, from the inverse e_i of each and the inverse k of 1 + Σ e_i: the sum of the words was Σ e_i y_i, k times.
unfoldable pub uninternal_by_sum : ℕ → List ℕ → ℕ → List ℕ → List ℕ
uninternal_by_sum p es k ys = multiples_less p (dot es ys * k) es ys

-- M_I undone where D_z alone is 0: y_z is the sum s of the words, so each other word is e_i times what s leaves of y_i, and word z is what
-- they leave of s. (For 0 `inverse` gives 0, so word z counts nothing before it is put in.)
unfoldable pub uninternal_at_zero : ℕ → ℕ → List ℕ → List ℕ → List ℕ
uninternal_at_zero p z es ys =
    let s = get_or ys z 0 in
    let others = multiples_less p s es ys in
    set others z (sub p s (sum others))

-- M_I undone (Rules 7.3).
unfoldable pub uninternal : ℕ → List ℕ → List ℕ → List ℕ
uninternal p D ys =
    let es = inverses p D in
    cond (eqb (zeros D) 0) (uninternal_by_sum p es (inverse p ((1 + sum es) % p)) ys) (uninternal_at_zero p (zero_place D) es ys)

-- One list less another, word by word; what the second lacks counts as 0.
unfoldable pub sub_lists : ℕ → List ℕ → List ℕ → List ℕ
sub_lists p [] ys = []
sub_lists p (x ∷ xs) ys = sub p x (get_or ys 0 0) ∷ sub_lists p xs (drop 1 ys)

unfoldable pub seventh_roots : ℕ → List ℕ → List ℕ
seventh_roots p ys = map (seventh_root p) ys

unfoldable pub unfull_round : ℕ → List ℕ → List ℕ → List ℕ
unfull_round p cs ys = sub_lists p (seventh_roots p (unexternal p ys)) cs

unfoldable pub unraise_first : ℕ → ℕ → List ℕ → List ℕ
unraise_first p c [] = []
unraise_first p c (y ∷ ys) = sub p (seventh_root p y) c ∷ ys

unfoldable pub unpartial_round : ℕ → List ℕ → ℕ → List ℕ → List ℕ
unpartial_round p D c ys = unraise_first p c (uninternal p D ys)

unfoldable pub unfull_rounds : ℕ → ℕ → ℕ → List ℕ → List ℕ → List ℕ
unfull_rounds p t zero cs ys = ys
unfull_rounds p t (suc n) cs ys = unfull_round p (take t cs) (unfull_rounds p t n (drop t cs) ys)

unfoldable pub unpartial_rounds : ℕ → List ℕ → ℕ → List ℕ → List ℕ → List ℕ
unpartial_rounds p D zero cs ys = ys
unpartial_rounds p D (suc n) cs ys = unpartial_round p D (get_or cs 0 0) (unpartial_rounds p D n (drop 1 cs) ys)

-- The permutation undone, its last step first.
unfoldable pub unpermute_at : ℕ → ℕ → ℕ → ℕ → List ℕ → List ℕ → List ℕ → List ℕ
unpermute_at p t half rp D C ys =
    unexternal p
    (unfull_rounds p t half C
    (unpartial_rounds p (take t D) rp (drop (t * half) C)
    (unfull_rounds p t half (drop (t * half + rp) C) ys)))

unfoldable pub unpermute : ℕ → ℕ → ℕ → List ℕ → List ℕ → List ℕ → List ℕ
unpermute p half rp D C ys = unpermute_at p (length ys) half rp D C ys
