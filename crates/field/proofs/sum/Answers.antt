use Rattle.std.proofs.Common.{ℕ, ◌+◌, ◌%◌, ap, ◌∙◌, arith}
use Rattle.modular.specs.Arithmetic.{add}
use Rattle.modular.specs.Goldilocks.{p}
use Rattle.field.proofs.Wrapping.{ε, rest_is}
use Rattle.field.proofs.sum.Goals as goal

pub returns-then-wrapped-a : goal.returns-then-wrapped-a
unfolding add
returns-then-wrapped-a c =
    let a = c.args in
    rest_is (a.a + a.b) (c.wrapping_add_u64-wrapped.result + ε) 1 (omega arith) (omega arith)

pub returns : goal.returns
unfolding add
returns c = c.residue.ensures ∙ ap (λ (x : ℕ). x % p) (omega arith)
