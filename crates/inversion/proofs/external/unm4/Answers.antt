use mathlib.Core.Path.{refl}
use lib.ListN.{get_or}
use Rattle.blocks.specs.Blocks.{four}
use Rattle.inversion.proofs.Words.{sub_word}
use Rattle.inversion.proofs.Parts.{restored, divided, unm4_steps}
use Rattle.inversion.proofs.external.unm4.Goals as goal

pub difference-t3-requires : goal.difference-t3-requires
difference-t3-requires c = (c.requires.at 0, c.requires.at 1)

pub difference-t2-requires : goal.difference-t2-requires
difference-t2-requires c = (c.requires.at 2, c.requires.at 3)

pub difference-requires : goal.difference-requires
difference-requires c = (c.requires.at 3, rw c.difference-t3.ensures (sub_word _ _))

pub quarter-t1-requires : goal.quarter-t1-requires
quarter-t1-requires c = rw c.difference.ensures (sub_word _ _)

pub difference-requires-2 : goal.difference-requires-2
difference-requires-2 c = (c.requires.at 1, rw c.difference-t2.ensures (sub_word _ _))

pub quarter-t0-requires : goal.quarter-t0-requires
quarter-t0-requires c = rw c.difference-2.ensures (sub_word _ _)

pub difference-requires-3 : goal.difference-requires-3
difference-requires-3 c = (rw c.difference-t3.ensures (sub_word _ _), c.quarter-t0.ensures.0)

pub half-d-requires : goal.half-d-requires
half-d-requires c = rw c.difference-3.ensures (sub_word _ _)

pub difference-requires-4 : goal.difference-requires-4
difference-requires-4 c = (rw c.difference-t2.ensures (sub_word _ _), c.quarter-t1.ensures.0)

pub half-b-requires : goal.half-b-requires
half-b-requires c = rw c.difference-4.ensures (sub_word _ _)

pub difference-requires-5 : goal.difference-requires-5
difference-requires-5 c = (c.quarter-t0.ensures.0, c.half-b.ensures.0)

pub difference-requires-6 : goal.difference-requires-6
difference-requires-6 c = (c.quarter-t1.ensures.0, c.half-d.ensures.0)

pub returns : goal.returns
returns c =
    let x = c.args.x in
    let t3 = c.difference-t3.result in
    let t2 = c.difference-t2.result in
    let t1 = c.quarter-t1.result in
    let t0 = c.quarter-t0.result in
    let d = c.half-d.result in
    let b = c.half-b.result in
    unm4_steps (four x) c.requires t3 t2 t1 t0 c.difference-5.result b c.difference-6.result d
    (restored (get_or x 0 0) (get_or x 1 0) c.difference-t3.ensures) (restored (get_or x 2 0) (get_or x 3 0) c.difference-t2.ensures)
    (divided 4 t1 (get_or x 3 0) t3 c.quarter-t1.ensures.1 c.difference.ensures) (divided 4 t0 (get_or x 1 0) t2 c.quarter-t0.ensures.1 c.difference-2.ensures)
    (divided 2 d t3 t0 c.half-d.ensures.1 c.difference-3.ensures) (divided 2 b t2 t1 c.half-b.ensures.1 c.difference-4.ensures)
    (restored t0 b c.difference-5.ensures) (restored t1 d c.difference-6.ensures)
    refl (rw c.difference-5.ensures (sub_word _ _)) c.half-b.ensures.0 (rw c.difference-6.ensures (sub_word _ _)) c.half-d.ensures.0
