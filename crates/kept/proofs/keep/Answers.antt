use mathlib.Core.Path.{◌≡◌, sym, ◌∙◌}
use Rattle.poseidon2.specs.Inverse.{zeros}
use Rattle.kept.proofs.keep.Goals as goal

pub kept_without_zero-requires : goal.kept_without_zero-requires
kept_without_zero-requires c =
    let none : zeros c.args.diagonal.now ≡ 0 = sym c.count_zeros.ensures ∙ c.if-count_zeros-eq0.true in
    (c.requires.0, c.requires.1.words, none, c.requires.1.sum_nonzero none)

pub kept_with_zero-requires : goal.kept_with_zero-requires
kept_with_zero-requires c =
    (c.requires.0, c.requires.1.words, λ z. c.if-count_zeros-eq0.false (c.count_zeros.ensures ∙ z))

pub returns-then-count_zeros-eq0 : goal.returns-then-count_zeros-eq0
returns-then-count_zeros-eq0 c = c.kept_without_zero.ensures

pub returns-else-count_zeros-eq0 : goal.returns-else-count_zeros-eq0
returns-else-count_zeros-eq0 c = c.kept_with_zero.ensures
