use mathlib.Core.Path.{ap, ◌∙◌}
use mathlib.Core.List.{List, ◌++◌}
use Prim.Native.Nat.{ℕ}
use lib.ListN.{length, drop, replicate}
use Rattle.std.proofs.lemmas.List.{drop-replicate}
use Rattle.kept.specs.Kept.{padded}
use Rattle.parameters.proofs.hold.Goals as goal

pub returns : goal.returns
unfolding padded
returns g c =
    let xs = c.args.list.now in
    ap (λ (l : List ℕ). l ++ drop (length xs) (replicate g.row.N 0)) c.copy_from_slice.ensures.after ∙ ap (λ (l : List ℕ). xs ++ l) (drop-replicate (length xs) g.row.N 0)
