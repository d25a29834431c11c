use mathlib.Core.Path.{◌≡◌, sym, ap, subst, ◌∙◌}
use mathlib.Core.List.{List}
use Prim.Native.Nat.{ℕ, ◌*◌}
use native.Mathlib.Omega.{arith}
use Rattle.std.proofs.Common.{◌<◌, ◌≢◌, length, length-set, rules, get_or-set_other, get_or-set_same, below_more}
use Rattle.fields.specs.Prime.{prime}
use Rattle.fields.proofs.Prime.{positive}
use Rattle.poseidon2.specs.Statements.{Words}
use Rattle.poseidon2.specs.Inverse.{unm4, unexternal}
use Rattle.poseidon2.proofs.Words.{add_lists-words}
use Rattle.blocks.specs.Blocks.{four, flat}
use Rattle.inversion.proofs.Words.{zero_words, scaled_words}
use Rattle.inversion.proofs.Blocks.{each, unexternal_alone, unexternal_several}
use Rattle.inversion.proofs.Flat.{words_at, each_flat, length-flat, several}
use Rattle.inversion.proofs.external.unexternal_blocks.Goals as goal
use Rattle.inversion.proofs.external.unexternal_blocks.Goals.{then-this-eq1, else-this-eq1}

pub share-added-requires : goal.share-added-requires
share-added-requires g c = (search rules, (several c.requires.0 c.if-this-eq1.false, c.requires.1))

pub add_blocks-requires : goal.add_blocks-requires
add_blocks-requires g c =
    let l = c.loop-i in (
      words_at positive c.args.x g.row.B c.requires.1 _ (omega arith),
      elim c.if-this-eq1.branch [
        | then-this-eq1 w ↦ subst (λ (b : List ℕ). Words prime (four b)) (sym w.added-is) zero_words
        | else-this-eq1 w ↦ subst (Words prime) (sym (ap four w.added-is ∙ w.share-added.ensures)) (scaled_words _ _)
      ],
    )

pub unm4-requires : goal.unm4-requires
unm4-requires g c = subst (Words prime) (sym c.add_blocks.ensures) (add_lists-words positive _ _)

pub loop-i-preserved : goal.loop-i-preserved
loop-i-preserved g c =
    let l = c.loop-i in (
      simp length-set l.invariant.0,
      below_more _ _
          (λ k h. let other : k ≢ l.i = omega arith in rw get_or-set_other (l.invariant.1 k h))
          (let here : l.i < length l.r = omega arith in rw get_or-set_same (c.unm4.ensures ∙ ap (unm4 prime) c.add_blocks.ensures)),
    )

pub returns : goal.returns
returns g c =
    let xs = flat g.row.B c.args.x in
    let added : each prime (four c.if-this-eq1.added) xs ≡ unexternal prime xs =
    elim c.if-this-eq1.branch [
      | then-this-eq1 w ↦ ap (λ (b : List ℕ). each prime (four b) xs) w.added-is ∙ unexternal_alone xs (length-flat g.row.B c.args.x ∙ ap (λ (n : ℕ). 4 * n) w.if-this-eq1.true) c.requires.1
      | else-this-eq1 w ↦
          ap (λ (b : List ℕ). each prime b xs) (ap four w.added-is ∙ w.share-added.ensures)
          ∙ unexternal_several prime g.row.B xs (length-flat g.row.B c.args.x) (omega (arith, several c.requires.0 w.if-this-eq1.false))
    ] in
    each_flat prime (four c.if-this-eq1.added) c.args.x c.loop-i.r g.row.B (λ k l. c.loop-i.invariant.1 k (omega arith)) ∙ added
