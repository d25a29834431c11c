use mathlib.Core.Path.{◌∙◌}
use Rattle.roots.proofs.Chain.{word_root}
use Rattle.roots.proofs.seventh_root.Goals as goal

pub returns : goal.returns
returns c =
    c.residue.ensures ∙ word_root c.args.y c.lazy_seventh_root.result c.requires c.lazy_seventh_root.ensures
