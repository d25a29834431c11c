use mathlib.Core.Path.{◌≡◌, refl, sym, ap, ap₂, ◌∙◌}
use mathlib.Core.List.{List}
use Prim.Native.Nat.{ℕ, ◌+◌}
use native.Mathlib.Numerals.{add-one}
use native.Mathlib.Omega.{arith}
use lib.ListN.{set, drop, get_or, length-set, length-drop}
use lib.Seq.{paste, paste-zero, paste-suc, get_or-drop}
use Rattle.trees.proofs.Lists.{copied}
use Rattle.trees.proofs.nodes.copy_words.Goals as goal

pub loop-i-init : goal.loop-i-init
loop-i-init c =
    let a = c.args in
    (refl, paste-zero a.target.now a.to (drop a.from a.source.now))

pub loop-i-preserved : goal.loop-i-preserved
loop-i-preserved c =
    let a = c.args in
    let i = c.loop-i.i in (
      length-set c.loop-i.target (a.to + i) (get_or a.source.now (a.from + i) 0) ∙ c.loop-i.invariant.0,
      ap₂ (λ (ys : List ℕ) (y : ℕ). set ys (a.to + i) y) c.loop-i.invariant.1 (sym (get_or-drop a.from a.source.now i 0))
          ∙ paste-suc a.target.now a.to (drop a.from a.source.now) i 0 (omega arith) (omega (arith, length-drop a.from a.source.now))
          ∙ ap (paste a.target.now a.to (drop a.from a.source.now)) (sym (add-one i)),
    )

pub returns : goal.returns
returns c =
    let a = c.args in
    let e : c.loop-i.i ≡ a.count = omega arith in
    c.loop-i.invariant.1 ∙ ap (paste a.target.now a.to (drop a.from a.source.now)) e ∙ copied a.target.now a.to a.source.now a.from a.count (omega arith)
