-- The nodes above listed places, and how many there are (Rules 5.4). They are counted by their numbers alone: k is the arity, and above the
-- place q stands node q div k^j of level j.
use Rattle.std.specs.Prelude.{cond, List, [], ◌∷◌, map, ℕ, suc, ◌/◌, ◌^◌, length}
use Rattle.repeats.specs.Repeats.{member}
use Rattle.merkle.specs.Lists.{sum}

-- each number of a list once
unfoldable pub once : List ℕ → List ℕ
once [] = []
once (x ∷ xs) = cond (member x xs) (once xs) (x ∷ once xs)

-- the different nodes of level j above the places
unfoldable pub above_at : ℕ → List ℕ → ℕ → List ℕ
above_at k qs j = once (map (λ q. q / k ^ j) qs)

-- how many there are, on levels 1 to h together
unfoldable pub nodes_above : ℕ → ℕ → List ℕ → ℕ
nodes_above k h qs = sum (λ j. length (above_at k qs (suc j))) h
