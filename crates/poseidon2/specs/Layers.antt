-- The two linear layers (Rules 3.1 to 3.4), for any p. A state is a list of t numbers, 4, 8 or 12.
use Rattle.std.specs.Prelude.{List, [], ◌∷◌, ◌++◌, map, ℕ, ◌+◌, ◌*◌, ◌%◌, get_or, drop}
use Rattle.modular.specs.Arithmetic.{add}

-- Two lists added word by word: as long as the first, and what the second lacks counts as 0.
unfoldable pub add_lists : ℕ → List ℕ → List ℕ → List ℕ
add_lists p [] ys = []
add_lists p (x ∷ xs) ys = add p x (get_or ys 0 0) ∷ add_lists p xs (drop 1 ys)

unfoldable pub sum : List ℕ → ℕ
sum [] = 0
sum (x ∷ xs) = x + sum xs

-- The sum of the products of a row's entries and the words.
unfoldable pub dot : List ℕ → List ℕ → ℕ
dot [] xs = 0
dot (a ∷ row) xs = a * get_or xs 0 0 + dot row (drop 1 xs)

-- A matrix, by its rows, times the words.
unfoldable pub rows_times : ℕ → List (List ℕ) → List ℕ → List ℕ
rows_times p [] xs = []
rows_times p (row ∷ rows) xs = dot row xs % p ∷ rows_times p rows xs

-- M4, by its rows (Rules 3.2).
unfoldable pub m4_rows : List (List ℕ)
m4_rows =
    (5 ∷ 7 ∷ 1 ∷ 3 ∷ []) ∷
    (4 ∷ 6 ∷ 1 ∷ 1 ∷ []) ∷
    (1 ∷ 3 ∷ 5 ∷ 7 ∷ []) ∷
    (1 ∷ 1 ∷ 4 ∷ 6 ∷ []) ∷ []

unfoldable pub m4 : ℕ → List ℕ → List ℕ
m4 p block = rows_times p m4_rows block

-- The blocks of a state (Rules 3.1). Fewer than four numbers are no block.
unfoldable pub blocks : List ℕ → List (List ℕ)
blocks [] = []
blocks (a ∷ []) = []
blocks (a ∷ b ∷ []) = []
blocks (a ∷ b ∷ c ∷ []) = []
blocks (a ∷ b ∷ c ∷ d ∷ xs) = (a ∷ b ∷ c ∷ d ∷ []) ∷ blocks xs

unfoldable pub join_blocks : List (List ℕ) → List ℕ
join_blocks [] = []
join_blocks (b ∷ bs) = b ++ join_blocks bs

-- Blocks summed word by word.
unfoldable pub sum_blocks : ℕ → List (List ℕ) → List ℕ
sum_blocks p [] = 0 ∷ 0 ∷ 0 ∷ 0 ∷ []
sum_blocks p (b ∷ bs) = add_lists p b (sum_blocks p bs)

unfoldable pub add_to_each : ℕ → List ℕ → List (List ℕ) → List (List ℕ)
add_to_each p s [] = []
add_to_each p s (b ∷ bs) = add_lists p b s ∷ add_to_each p s bs

-- Two blocks or more each get the sum of all added; a block alone stays.
unfoldable pub mixed : ℕ → List (List ℕ) → List (List ℕ)
mixed p [] = []
mixed p (b ∷ []) = b ∷ []
mixed p (b ∷ c ∷ bs) = add_to_each p (sum_blocks p (b ∷ c ∷ bs)) (b ∷ c ∷ bs)

-- M_E: M4 in each block, then the blocks mixed; a single block gets M4 alone and not twice (Rules 3.3).
unfoldable pub external : ℕ → List ℕ → List ℕ
external p xs = join_blocks (mixed p (map (m4 p) (blocks xs)))

-- The halves of M_E (Rules 3.10), for any number of blocks. The sums: to each block the sum of all; a block alone stays.
unfoldable pub sums : ℕ → List ℕ → List ℕ
sums p xs = join_blocks (mixed p (blocks xs))

-- M4 in each block.
unfoldable pub m4_blocks : ℕ → List ℕ → List ℕ
m4_blocks p xs = join_blocks (map (m4 p) (blocks xs))

-- For each word, s and D_i times the word. A D_i that the list lacks counts as 0, and one beyond the words is not read.
unfoldable pub plus_multiples : ℕ → ℕ → List ℕ → List ℕ → List ℕ
plus_multiples p s D [] = []
plus_multiples p s D (x ∷ xs) = (s + get_or D 0 0 * x) % p ∷ plus_multiples p s (drop 1 D) xs

-- M_I: each word times its D_i, and the sum of the words added to each; so the diagonal of the matrix has D_i + 1 (Rules 3.4).
unfoldable pub internal : ℕ → List ℕ → List ℕ → List ℕ
internal p D xs = plus_multiples p (sum xs) D xs
