use mathlib.Core.Path.{◌≡◌, ap, ◌∙◌}
use mathlib.Core.List.{List}
use Prim.Native.Nat.{ℕ, ◌+◌, ◌*◌, ◌-◌, ◌≤◌}
use native.Mathlib.Omega.{arith}
use lib.ListN.{length}
use Rattle.blobs.specs.Absorption.{add_block}
use Rattle.fields.specs.Prime.{prime, word_bytes}
use Rattle.files.proofs.MessageBytes.{inside_facts}
use Rattle.files.proofs.MessageBlocks.{inner_block}
use Rattle.files.proofs.add_block.Goals as goal
use Rattle.files.proofs.add_block.Goals.{After-word_bytes, Then-inside}

-- the block stands in the contents, with eight bytes behind it
facts : (c : Then-inside) → (length c.args.head.now ≤ c.args.from)
    × (c.args.from - length c.args.head.now + (c.word_bytes.result * c.args.rate + 8) ≤ length c.args.contents.now)
facts c = inside_facts _ _ _ _ c.inside.ensures c.if-inside.true

-- so many bytes as the definition says
bytes-are : (c : Then-inside) → c.word_bytes.result * c.args.rate ≡ word_bytes * c.args.rate
bytes-are c = ap (λ (b : ℕ). b * c.args.rate) c.word_bytes.ensures

pub returns-then-inside : goal.returns-then-inside
returns-then-inside c =
    let t = (goal.at.returns-then-inside c).Then-inside in
    let a = c.args in
    c.add_inner.ensures
    ∙ ap (λ (xs : List ℕ). add_block prime a.rate xs a.state.now)
    (inner_block word_bytes a.rate a.from (c.word_bytes.result * a.rate + 8) a.head.now a.contents.now (facts t).0 (facts t).1 (omega (arith, bytes-are t)))
