use Rattle.std.proofs.Common.{◌+◌, ◌*◌, arith, lit<, rules}
use Rattle.modular.specs.Goldilocks.{p}
use Rattle.blocks.specs.Blocks.{flat}
use Rattle.blocks.proofs.Each.{flat_length}
use Rattle.blocks.proofs.Lists.{fewer_words}
use Rattle.blocks.proofs.Turns.{full_none, full_turn, full_end, turn_fits}
use Rattle.permutation.proofs.rounds.full_rounds.Goals as goal

pub returns-then-i-n : goal.returns-then-i-n
returns-then-i-n g c = full_end p c.loop-i.invariant (flat g.row.B c.external-r.result) (omega arith) c.external-r.ensures

pub raise-q-requires : goal.raise-q-requires
raise-q-requires g c =
    let a = c.args in
    let t = 4 * g.row.B in
    let f = turn_fits t c.loop-i.i a.n (omega arith) in
    (search rules, (omega arith, fewer_words (lit< tt) (a.at + t * c.loop-i.i + t) (a.at + t * a.n) a.constants.now (omega arith) c.requires.4))

pub loop-i-preserved : goal.loop-i-preserved
loop-i-preserved g c =
    full_turn p c.loop-i.invariant (flat g.row.B c.external-r.result) (omega arith) (flat_length g.row.B c.external-r.result) c.external-r.ensures c.raise-q.ensures

pub loop-i-init : goal.loop-i-init
loop-i-init g c = full_none p _ _ _ _ _
