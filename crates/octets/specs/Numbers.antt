-- Numbers as bytes: the lowest byte first (Rules 7.5, 7.9), and in decimal (Rules 7.6, 7.7).
use Rattle.std.specs.Prelude.{cond, List, [], ◌∷◌, ◌++◌, ℕ, zero, suc, ◌+◌, ◌*◌, ◌/◌, ◌%◌, ltb, take, drop}

-- the number of some bytes, the lowest first
unfoldable pub little_endian : List ℕ → ℕ
little_endian [] = 0
little_endian (b ∷ bs) = b + 256 * little_endian bs

-- the first n numbers of a list of bytes, of `size` bytes each
unfoldable pub numbers_of : ℕ → ℕ → List ℕ → List ℕ
numbers_of size zero bytes = []
numbers_of size (suc n) bytes = little_endian (take size bytes) ∷ numbers_of size n (drop size bytes)

-- A number in decimal, as ASCII: the last digit follows the text of the others. It has at most as many digits as the first number says.
unfoldable pub digits : ℕ → ℕ → List ℕ
digits zero n = []
digits (suc most) n = cond (ltb n 10) ((48 + n) ∷ []) (digits most (n / 10) ++ ((48 + n % 10) ∷ []))

-- n has no more digits than n + 1
unfoldable pub decimal : ℕ → List ℕ
decimal n = digits (suc n) n
