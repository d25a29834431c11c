-- What extraction gives for two leaves with their siblings (Rules 5.7).
use Rattle.std.specs.Prelude.{Bool, ◌&&◌, not, List, ℕ}
use Rattle.std.proofs.Math.Option.{Option, none, some}
use Rattle.merkle.specs.Lists.{same, lowest}
use Rattle.merkle.specs.Levels.{Shape}
use Rattle.merkle.specs.Openings.{path_row}

-- a level and its two rows, the first leaf's first
pub record Collision : Type 0 where
  pub level : ℕ
  pub first : List ℕ
  pub second : List ℕ

module _ (S : Shape) where
  open S use {compress}

  -- two different rows with the same compression
  unfoldable pub collide : List ℕ → List ℕ → Bool
  collide r s = not (same r s) && same (compress r) (compress s)

  -- the rows of both leaves at level j are such
  unfoldable pub collide_at : ℕ → List ℕ → List ℕ → List ℕ → List ℕ → ℕ → Bool
  collide_at q a x b y j = collide (path_row S q a x j) (path_row S q b y j)

  -- a level, with the rows of both leaves there
  unfoldable pub with_rows : ℕ → List ℕ → List ℕ → List ℕ → List ℕ → Option ℕ → Option Collision
  with_rows q a x b y none = none
  with_rows q a x b y (some j) = some (record { level = j; first = path_row S q a x j; second = path_row S q b y j })

  -- the lowest such level below h, with both rows: of the leaf a with the siblings x, and of b with y
  unfoldable pub extract : ℕ → ℕ → List ℕ → List ℕ → List ℕ → List ℕ → Option Collision
  extract h q a x b y = with_rows q a x b y (lowest (collide_at q a x b y) h)
