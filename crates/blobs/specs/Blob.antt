-- A file as a list of words (Rules 7.7 to 7.9), for any number of bytes a word and any rate, which is t - l.
use Rattle.std.specs.Prelude.{List, [], ◌∷◌, ◌++◌, ℕ, ◌*◌, ◌-◌, ◌/◌, ◌%◌, length, replicate}
use Rattle.octets.specs.Numbers.{numbers_of, decimal}

-- `blob` and a space: 62 6C 6F 62 20 in hexadecimal
abbrev pub blob_word : List ℕ
blob_word = 98 ∷ 108 ∷ 111 ∷ 98 ∷ 32 ∷ []

-- What stands before n bytes of contents: the five bytes, n in decimal, a zero byte.
unfoldable pub blob_head : ℕ → List ℕ
blob_head n = blob_word ++ (decimal n ++ (0 ∷ []))

-- The message, which Git calls a blob (Rules 7.7).
unfoldable pub message : List ℕ → List ℕ
message contents = blob_head (length contents) ++ contents

-- The fewest zero bytes that bring n bytes to a multiple of m.
unfoldable pub shortfall : ℕ → ℕ → ℕ
shortfall m n = (m - n % m) % m

-- One byte 01, and then the fewest zero bytes that reach a multiple of m (Rules 7.8).
unfoldable pub padded_to : ℕ → List ℕ → List ℕ
padded_to m bytes =
    let marked = bytes ++ (1 ∷ []) in
    marked ++ replicate (shortfall m (length marked)) 0

-- Each `size` bytes in turn as a number, the lowest byte first (Rules 7.9).
unfoldable pub packed : ℕ → List ℕ → List ℕ
packed size bytes = numbers_of size (length bytes / size) bytes

-- The file's words, for `size` bytes a word and a rate.
unfoldable pub file_words : ℕ → ℕ → List ℕ → List ℕ
file_words size rate contents = packed size (padded_to (size * rate) (message contents))
