-- A level that may be missing, as one number.
use Rattle.std.proofs.Math.Option.{Option, none, some}
use Rattle.std.specs.Prelude.{ℕ}

-- the level, or the height where there is none
unfoldable pub level_or : ℕ → Option ℕ → ℕ
level_or h none = h
level_or h (some j) = j
