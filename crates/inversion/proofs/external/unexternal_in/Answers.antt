use mathlib.Core.Path.{sym, ap, subst, ◌∙◌}
use Rattle.std.proofs.Common.{rules}
use Rattle.fields.specs.Prime.{prime}
use Rattle.poseidon2.specs.Inverse.{unexternal}
use Rattle.poseidon2.specs.Statements.{Width, Words}
use Rattle.inversion.proofs.external.unexternal_in.Goals as goal

pub unexternal_blocks-requires : goal.unexternal_blocks-requires
unexternal_blocks-requires g c =
    (search rules, (subst Width c.requires.0 c.requires.1, subst (Words prime) (sym c.read_blocks-x.ensures) c.requires.2))

pub returns : goal.returns
returns g c = c.write_blocks.ensures ∙ c.unexternal_blocks.ensures ∙ ap (unexternal prime) c.read_blocks-x.ensures
