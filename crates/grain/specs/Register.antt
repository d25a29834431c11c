-- The register of the generator (Rules 7.12, 7.13). A bit is 0 or 1; the register's are a list, the oldest, bit 0, first.
use Rattle.std.specs.Prelude.{List, [], ◌∷◌, ◌++◌, ℕ, zero, suc, ◌+◌, ◌/◌, ◌%◌, ◌^◌, length, get_or, drop, replicate}

-- the lowest bits of a number, so many, the highest of them first
unfoldable pub highest_first : ℕ → ℕ → List ℕ
highest_first zero n = []
highest_first (suc count) n = n / 2 ^ count % 2 ∷ highest_first count n

-- The 80 bits at the beginning: 01 for a prime field, 0 for an S-box that is a power, the prime's size in bits, t, R_F, R_P, thirty ones.
unfoldable pub register : ℕ → ℕ → ℕ → ℕ → List ℕ
register size t rf rp =
    highest_first 2 1 ++
    (highest_first 4 0 ++
    (highest_first 12 size ++
    (highest_first 12 t ++
    (highest_first 10 rf ++
    (highest_first 10 rp ++
    replicate 30 1)))))

-- the exclusive or of bits: 1 if an odd number of them are
unfoldable pub exclusive_or : List ℕ → ℕ
exclusive_or [] = 0
exclusive_or (b ∷ bits) = (b + exclusive_or bits) % 2

-- the new bit of a step
unfoldable pub new_bit : List ℕ → ℕ
new_bit r = exclusive_or (get_or r 62 0 ∷ get_or r 51 0 ∷ get_or r 38 0 ∷ get_or r 23 0 ∷ get_or r 13 0 ∷ get_or r 0 0 ∷ [])

-- The register after a step: the oldest bit leaves it, and the new one is the last.
unfoldable pub step : List ℕ → List ℕ
step r = drop 1 r ++ (new_bit r ∷ [])

-- the new bits of n steps, in the order in which they are made
unfoldable pub new_bits : ℕ → List ℕ → List ℕ
new_bits zero r = []
new_bits (suc n) r = new_bit r ∷ new_bits n (step r)

-- the register after n steps
unfoldable pub after_steps : ℕ → List ℕ → List ℕ
after_steps zero r = r
after_steps (suc n) r = after_steps n (step r)

-- The register with bits pushed into it, of which as many leave it: what steps do with their new bits, and how the code makes the beginning.
unfoldable pub pushed : List ℕ → List ℕ → List ℕ
pushed r bits = drop (length bits) (r ++ bits)
