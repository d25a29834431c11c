-- What a validated set gives a permutation without validation: its width and rounds, and constants that are words.
use Rattle.std.specs.Prelude.{ℕ, ◌+◌, ◌*◌, ◌≤◌, List, take}
use Rattle.fields.specs.Prime.{prime}
use Rattle.poseidon2.specs.Statements.{Width, Words}

abbrev pub Validated : ℕ → ℕ → ℕ → List ℕ → Type 0
Validated width half partial_rounds constants =
    (Width width) × (1 ≤ half) × (half ≤ 6) × (partial_rounds ≤ 64) × (Words prime (take (width * (2 * half) + partial_rounds) constants))
