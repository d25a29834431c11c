-- The rounds and their order (Rules 3.5 to 3.8), for any p and any numbers of rounds.
use Rattle.std.specs.Prelude.{List, [], ◌∷◌, map, ℕ, zero, suc, ◌+◌, ◌*◌, length, get_or, take, drop}
use Rattle.modular.specs.Arithmetic.{add, pow}
use Rattle.poseidon2.specs.Layers.{add_lists, external, internal}

unfoldable pub add_constants : ℕ → List ℕ → List ℕ → List ℕ
add_constants p cs xs = add_lists p xs cs

unfoldable pub seventh_powers : ℕ → List ℕ → List ℕ
seventh_powers p xs = map (λ x. pow p x 7) xs

-- A full round: constants, the power 7 of every word, M_E (Rules 3.5).
unfoldable pub full_round : ℕ → List ℕ → List ℕ → List ℕ
full_round p cs xs = external p (seventh_powers p (add_constants p cs xs))

-- Word 0 with its constant, to the power 7; the others stay.
unfoldable pub raise_first : ℕ → ℕ → List ℕ → List ℕ
raise_first p c [] = []
raise_first p c (x ∷ xs) = pow p (add p x c) 7 ∷ xs

-- A partial round: that, then M_I (Rules 3.6).
unfoldable pub partial_round : ℕ → List ℕ → ℕ → List ℕ → List ℕ
partial_round p D c xs = internal p D (raise_first p c xs)

-- n full rounds at width t: each takes the next t constants.
unfoldable pub full_rounds : ℕ → ℕ → ℕ → List ℕ → List ℕ → List ℕ
full_rounds p t zero cs xs = xs
full_rounds p t (suc n) cs xs = full_rounds p t n (drop t cs) (full_round p (take t cs) xs)

-- n partial rounds: each takes the next constant.
unfoldable pub partial_rounds : ℕ → List ℕ → ℕ → List ℕ → List ℕ → List ℕ
partial_rounds p D zero cs xs = xs
partial_rounds p D (suc n) cs xs = partial_rounds p D n (drop 1 cs) (partial_round p D (get_or cs 0 0) xs)

-- M_E, `half` full rounds, rp partial rounds, `half` full rounds again, at width t; `half` is R_F/2 (Rules 3.7). They take their constants
-- from C in this order (Rules 3.8). What D and C have after the used words is not read.
unfoldable pub permute_at : ℕ → ℕ → ℕ → ℕ → List ℕ → List ℕ → List ℕ → List ℕ
permute_at p t half rp D C xs =
    full_rounds p t half (drop (t * half + rp) C)
    (partial_rounds p (take t D) rp (drop (t * half) C)
    (full_rounds p t half C
    (external p xs)))

-- The permutation of a state: its width is the number of its words.
unfoldable pub permute : ℕ → ℕ → ℕ → List ℕ → List ℕ → List ℕ → List ℕ
permute p half rp D C xs = permute_at p (length xs) half rp D C xs
