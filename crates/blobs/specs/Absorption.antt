-- The leaf of a file (Rules 7.10), modulo any p and over any permutation f of a state.
use Rattle.std.specs.Prelude.{List, ◌++◌, ℕ, zero, suc, ◌-◌, ◌/◌, length, take, drop, replicate}
use Rattle.poseidon2.specs.Layers.{add_lists}
use Rattle.blobs.specs.Blob.{file_words}

-- A message block added to the first words of the state; the others stay.
unfoldable pub add_block : ℕ → ℕ → List ℕ → List ℕ → List ℕ
add_block p rate block state = add_lists p (take rate state) block ++ drop rate state

-- The first n message blocks of the words: each is added, and the state permuted.
unfoldable pub absorb : ℕ → ℕ → (List ℕ → List ℕ) → ℕ → List ℕ → List ℕ → List ℕ
absorb p rate f zero words state = state
absorb p rate f (suc n) words state = absorb p rate f n (drop rate words) (f (add_block p rate (take rate words) state))

-- The leaf: from t zeros, all message blocks; then the first l words.
unfoldable pub file_leaf : ℕ → ℕ → ℕ → ℕ → (List ℕ → List ℕ) → List ℕ → List ℕ
file_leaf p size t l f contents =
    let words = file_words size (t - l) contents in
    take l (absorb p (t - l) f (length words / (t - l)) words (replicate t 0))
