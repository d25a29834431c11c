use native.Mathlib.Omega.{arith}
use Rattle.marks.proofs.Marks.{leaf_inside, leaf_marked}
use Rattle.marks.proofs.marking.write_leaf.Goals as goal

pub copy_words-requires : goal.copy_words-requires
copy_words-requires c =
    let a = c.args in
    (omega (arith, c.requires.4), leaf_inside c.requires.0 a.store.now a.leaf.now a.place c.requires.3 c.requires.4 c.requires.1)

pub returns : goal.returns
returns c =
    let a = c.args in
    leaf_marked c.requires.0 a.store.now a.leaf.now a.place c.requires.3 c.requires.4 c.requires.1 _ c.copy_words.ensures _ c.mark_above.ensures
