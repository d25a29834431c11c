-- The mark, and a level as its code has it. Nothing here has to be believed.
use Rattle.std.specs.Prelude.{◌≡◌, List, ℕ, suc, ◌^◌, ◌<◌}
use Rattle.merkle.specs.Numbering.{rows_before}
use Rattle.trees.specs.declared.Dimensions.{Dimensions}
use Rattle.trees.specs.Shapes.{tree}

-- 2^64 - 1
abbrev pub mark : ℕ
mark = 18446744073709551615

-- A level below the root by two numbers: the rows that stand before its own, and the places under each node above it.
pub record Rank (d : Dimensions) (before under : ℕ) : Type 0 where
  pub level : ℕ
  pub low : level < d.height
  pub rows : (D C : List ℕ) → before ≡ rows_before (tree d D C) d.height level
  pub places : under ≡ d.arity ^ suc level
