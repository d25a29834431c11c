-- A map of numbers, as its code has it: a bit for each of the 2^20 from a base on, 64 bits a word.
-- Nothing here has to be believed: that numbers which stand twice are found by it is proved.
use Rattle.std.specs.Prelude.{Bool, true, false, cond, ◌&&◌, List, ℕ, ◌+◌, ◌-◌, ◌/◌, ◌%◌, ◌^◌, leb, ltb, eqb, get_or, set}

-- the numbers that a map has a bit for, and its words
abbrev pub window : ℕ
window = 1048576

abbrev pub map_words : ℕ
map_words = 16384

unfoldable pub in_window : ℕ → ℕ → Bool
in_window base q = leb base q && ltb (q - base) window

-- bit b, and the map with bit b set, where it is 0
unfoldable pub bit_at : List ℕ → ℕ → ℕ
bit_at map b = get_or map (b / 64) 0 / 2 ^ (b % 64) % 2

unfoldable pub with_bit : List ℕ → ℕ → List ℕ
with_bit map b = set map (b / 64) (get_or map (b / 64) 0 + 2 ^ (b % 64))

-- a map, and whether a number was noted before
pub record Noting : Type 0 where
  pub map : List ℕ
  pub again : Bool

abbrev pub noting : List ℕ → Bool → Noting
noting map again = record { map = map; again = again }

-- a number is noted if there is a bit for it
unfoldable pub note : ℕ → ℕ → List ℕ → Noting
note base q map =
    cond (in_window base q)
    (cond (eqb (bit_at map (q - base)) 1) (noting map true) (noting (with_bit map (q - base)) false))
    (noting map false)
