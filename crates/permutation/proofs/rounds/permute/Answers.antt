use Rattle.std.proofs.Common.{◌+◌, ◌*◌, ap, ◌∙◌, arith, lit<, rules}
use Rattle.modular.specs.Goldilocks.{p}
use Rattle.poseidon2.specs.Rounds.{permute}
use Rattle.blocks.specs.Blocks.{flat}
use Rattle.blocks.proofs.Each.{flat_length}
use Rattle.blocks.proofs.Lists.{fewer_words}
use Rattle.blocks.proofs.Turns.{permutation_code, twice, one_less}
use Rattle.permutation.proofs.rounds.permute.Goals as goal

pub full_rounds-a-requires : goal.full_rounds-a-requires
full_rounds-a-requires g c =
    let a = c.args in
    let t = 4 * g.row.B in
    let n = twice t a.half in
    (search rules, (c.requires.0, c.requires.1, c.requires.3, grind arith, fewer_words (lit< tt) (0 + t * a.half) (t * (2 * a.half) + a.partial_rounds) a.constants.now (omega arith) c.requires.5))

pub partial_rounds-b-requires : goal.partial_rounds-b-requires
partial_rounds-b-requires g c =
    let a = c.args in
    let t = 4 * g.row.B in
    let n = twice t a.half in
    (search rules, (c.requires.0, c.requires.1, grind arith, c.requires.4, fewer_words (lit< tt) (t * a.half + a.partial_rounds) (t * (2 * a.half) + a.partial_rounds) a.constants.now (omega arith) c.requires.5))

pub raise-e-requires : goal.raise-e-requires
raise-e-requires g c =
    let a = c.args in
    let t = 4 * g.row.B in
    let n = twice t a.half in
    let l = one_less t a.half c.requires.2 in
    (search rules, (grind arith, fewer_words (lit< tt) (t * a.half + a.partial_rounds + t) (t * (2 * a.half) + a.partial_rounds) a.constants.now (omega arith) c.requires.5))

pub returns : goal.returns
returns g c =
    let a = c.args in
    let B = g.row.B in
    permutation_code p (4 * B) a.half a.partial_rounds a.diagonal.now a.constants.now (flat B c.load-x.result) (flat B c.full_rounds-a.result) (flat B c.partial_rounds-b.result)
    (flat B c.raise-e.result) (flat B c.full_rounds.result) c.requires.2 (flat_length B c.load-x.result) (flat_length B c.partial_rounds-b.result)
    c.full_rounds-a.ensures c.partial_rounds-b.ensures c.raise-e.ensures c.full_rounds.ensures
    ∙ ap (permute p a.half a.partial_rounds a.diagonal.now a.constants.now) c.load-x.ensures
