-- The siblings of the levels below are words.
use mathlib.Core.Path.{◌≡◌}
use mathlib.Core.Bool.{true}
use mathlib.Core.List.{[]}
use Prim.Native.Nat.{◌^◌}
use lib.ListN.{length}
use Rattle.modular.specs.Arithmetic.{all_words}
use Rattle.merkle.specs.Numbering.{gather}
use Rattle.trees.specs.Shapes.{prime_of_tree, tree}
use Rattle.trees.proofs.Ascent.{Over}
use Rattle.trees.proofs.openings.opening_is_words.Given as goal

abbrev pub invariant-loop : goal.invariant-loop
invariant-loop l = (Over l.d [] [] (length l.store) l.place l.counter l.number) × (all_words (prime_of_tree l.d) (gather (tree l.d [] []) (l.d.arity ^ l.d.height) l.place l.store l.counter) ≡ true)
