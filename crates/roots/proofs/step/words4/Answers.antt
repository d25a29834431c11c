use Rattle.roots.proofs.Chain.{residues_four}
use Rattle.roots.proofs.step.words4.Goals as goal

pub returns : goal.returns
returns c =
    let x = c.args.x in
    residues_four x c.residue.ensures c.residue-2.ensures c.residue-3.ensures c.residue-4.ensures
