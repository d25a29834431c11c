use mathlib.Core.Path.{sym, ap, ◌∙◌}
use Prim.Native.Nat.{ℕ}
use lib.Dec.{eqb}
use borrow.Author.Tests.{ne_eqb}
use Rattle.fields.specs.Prime.{prime}
use Rattle.fields.proofs.Prime.{positive, prime_field}
use Rattle.kept.proofs.Inverting.{scaled_decides}
use Rattle.parameters.proofs.Diagonal.{with_zero, without_zero}
use Rattle.parameters.proofs.AcceptedSets.{words_of}
use Rattle.parameters.proofs.bad_diagonal.Goals as goal

pub products_of-requires : goal.products_of-requires
products_of-requires c = (c.requires.1, words_of prime c.args.diagonal.now positive c.requires.2)

pub returns-then-zero_count-eq0 : goal.returns-then-zero_count-eq0
returns-then-zero_count-eq0 c =
    let D = c.args.diagonal.now in
    let none = sym c.requires.0 ∙ c.if-zero_count-eq0.true in
    ap (λ (n : ℕ). eqb n 0) c.residue.ensures
    ∙ scaled_decides prime prime_field D (words_of prime D positive c.requires.2) c.products_of.result c.products_of.ensures none
    ∙ sym (without_zero prime D none)

pub returns-else-zero_count-eq0 : goal.returns-else-zero_count-eq0
returns-else-zero_count-eq0 c =
    ne_eqb _ _ c.if-zero_count-eq0.false ∙ sym (with_zero prime c.args.diagonal.now (λ z. c.if-zero_count-eq0.false (c.requires.0 ∙ z)))
