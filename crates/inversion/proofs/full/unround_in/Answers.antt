use mathlib.Core.Path.{refl, sym, ap, subst, ◌∙◌}
use mathlib.Core.List.{List}
use Prim.Native.Nat.{ℕ}
use lib.ListN.{drop}
use Rattle.std.proofs.Common.{rules}
use Rattle.fields.specs.Prime.{prime}
use Rattle.poseidon2.specs.Inverse.{sub_lists, seventh_roots, unexternal, unfull_round}
use Rattle.poseidon2.specs.Statements.{Width, Words}
use Rattle.inversion.proofs.Words.{roots_words, unexternal_state}
use Rattle.inversion.proofs.full.unround_in.Goals as goal
use Rattle.inversion.proofs.full.unround_in.Goals.{After-unexternal_blocks, After-seventh_roots-r}

pub unexternal_blocks-requires : goal.unexternal_blocks-requires
unexternal_blocks-requires g c =
    (search rules, (subst Width c.requires.0 c.requires.1, subst (Words prime) (sym c.read_blocks-x.ensures) c.requires.4))

pub seventh_roots-r-requires : goal.seventh_roots-r-requires
seventh_roots-r-requires g c =
    let e = c.unexternal_blocks.ensures ∙ ap (unexternal prime) c.read_blocks-x.ensures in
    (search rules, subst (Words prime) (sym e) (unexternal_state c.requires.1 (record { width = refl; words = c.requires.4 })).words)

pub less_blocks-requires : goal.less_blocks-requires
less_blocks-requires g c = (search rules, (c.requires.2, c.requires.3, subst (Words prime) (sym c.seventh_roots-r.ensures) (roots_words _)))

pub write_blocks-requires : goal.write_blocks-requires
write_blocks-requires g c = (search rules, c.requires.0)

pub returns : goal.returns
unfolding unfull_round
returns g c =
    c.write_blocks.ensures ∙ c.less_blocks.ensures
    ∙ ap (λ (xs : List ℕ). sub_lists prime xs (drop c.args.at c.args.constants.now))
    (c.seventh_roots-r.ensures ∙ ap (seventh_roots prime) (c.unexternal_blocks.ensures ∙ ap (unexternal prime) c.read_blocks-x.ensures))
