use mathlib.Core.Path.{◌≡◌, sym}
use mathlib.Core.List.{List}
use mathlib.Core.Bool.{true}
use Prim.Native.Nat.{ℕ, ◌<◌}
use native.Mathlib.Omega.{arith}
use borrow.Author.Tests.{lt-ltb}
use Rattle.refusals.specs.Table.{first_refusal}
use Rattle.poseidon2.specs.Inverse.{zeros}
use Rattle.parameters.specs.Refusals.{several_zeros, word_refusals}
use Rattle.parameters.proofs.check_words.Goals as goal

several : (n : ℕ) (D : List ℕ) → n ≡ zeros D → 1 < n → several_zeros D ≡ true
unfolding several_zeros
several n D e h = lt-ltb 1 (zeros D) (omega arith)

pub returns-then-zero_count-gt1 : goal.returns-then-zero_count-gt1
unfolding first_refusal word_refusals
returns-then-zero_count-gt1 c =
    simp (
      sym c.if-not-all_words.ensures,
      sym c.if-not-all_words-2.ensures,
      several c.args.zero_count c.args.diagonal.now c.requires c.if-zero_count-gt1.true,
    )
