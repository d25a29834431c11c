use Rattle.std.proofs.Common.{ℕ, ◌*◌, List, [], ◌∷◌, get_or, take, drop, subst, arith, rules}
use Rattle.modular.specs.Goldilocks.{p}
use Rattle.blocks.specs.Blocks.{flat}
use Rattle.blocks.proofs.Each.{first_of, set_first}
use Rattle.blocks.proofs.Turns.{Going, partial_none, partial_turn, partial_end}
use Rattle.permutation.proofs.rounds.partial_rounds.Goals as goal

pub loop-i-init : goal.loop-i-init
loop-i-init g c = partial_none p _ _ _ _ _

pub loop-i-preserved : goal.loop-i-preserved
loop-i-preserved g c = partial_turn p c.loop-i.invariant (omega arith) c.next_constant-in-loop-i.ensures.0 c.partial-r.ensures

pub returns : goal.returns
returns g c =
    let x = c.args.x in
    let i = c.loop-i.i in
    let from = set_first g.row.B x c.sum.result c.requires.0 (search rules) in
    let going : Going p (take (4 * g.row.B) c.args.diagonal.now) c.args.constants.now c.args.at c.args.n (c.sum.result ∷ drop 1 (flat g.row.B x)) i (flat g.row.B c.loop-i.s) =
    subst (λ (xs : List ℕ). Going p (take (4 * g.row.B) c.args.diagonal.now) c.args.constants.now c.args.at c.args.n xs i (flat g.row.B c.loop-i.s)) from c.loop-i.invariant in
    rw (first_of g.row.B x c.requires.0) (partial_end p going (get_or (get_or x 0 []) 0 0) (omega arith) c.sum.ensures c.next_constant.ensures.0)
