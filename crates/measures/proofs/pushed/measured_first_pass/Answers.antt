use mathlib.Core.Path.{◌≡◌, sym, ap, ◌∙◌}
use mathlib.Core.Bool.{◌&&◌}
use Prim.Native.Nat.{ℕ, ◌/◌}
use lib.Dec.{eqb, leb}
use lib.ListN.{length, length-replicate}
use Rattle.std.proofs.Common.{rules}
use Rattle.measures.specs.Pushed.{found, first_pass}
use Rattle.measures.proofs.Beginnings.{first_asks}
use Rattle.measures.proofs.pushed.measured_first_pass.Goals as goal

pub each-requires : goal.each-requires
each-requires c =
    let few : c.if-repeats-eq1.few ≡ (eqb c.args.repeats 1 && leb (length c.args.numbers.now / 7) 128) = search rules in
    rw (c.beginning-begun.ensures, few, c.read-handed.ensures) (first_asks _ _ _ c.requires c.args.repeats)

pub returns : goal.returns
unfolding first_pass
returns c =
    let few : c.if-repeats-eq1.few ≡ (eqb c.args.repeats 1 && leb (length c.args.numbers.now / 7) 128) = search rules in
    c.found.ensures ∙ ap found (c.each.ensures.0 ∙ rw (c.beginning-begun.ensures, few, c.read-handed.ensures))

pub slice_bounds-each-end : goal.slice_bounds-each-end
slice_bounds-each-end c = sym (length-replicate {A = ℕ} 128 0)
