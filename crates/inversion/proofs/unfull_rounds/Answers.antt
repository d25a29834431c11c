use mathlib.Core.Path.{◌≡◌, refl, sym, ap, subst, ◌∙◌}
use Prim.Native.Nat.{ℕ, ◌+◌, ◌*◌, ◌-◌}
use native.Mathlib.Omega.{arith}
use lib.ListN.{length, drop}
use Rattle.fields.specs.Prime.{prime}
use Rattle.poseidon2.specs.Inverse.{unfull_round}
use Rattle.poseidon2.specs.Statements.{Width, State}
use Rattle.inversion.proofs.Words.{unfull_rounds-state}
use Rattle.inversion.proofs.Rounds.{full_from, full_none, full_all, full_more, round_fits, fewer_words}
use Rattle.inversion.proofs.unfull_rounds.Goals as goal

pub loop-i-init : goal.loop-i-init
loop-i-init c =
    let a = c.args in
    let xs = a.state.now in
    (omega arith, full_none (length xs) a.constants.now a.at a.rounds xs, record { width = refl; words = c.requires.1 })

pub overflow_mul-state : goal.overflow_mul-state
overflow_mul-state c =
    omega (arith, round_fits _ _ c.loop-i.i c.args.rounds c.loop-i.invariant.2.width c.loop-i-test.true c.loop-i.invariant.0, c.requires.2)

pub overflow_add-at : goal.overflow_add-at
overflow_add-at c =
    omega (arith, round_fits _ _ c.loop-i.i c.args.rounds c.loop-i.invariant.2.width c.loop-i-test.true c.loop-i.invariant.0, c.requires.2)

pub unround-requires : goal.unround-requires
unround-requires c =
    let v = c.loop-i.invariant.2 in
    let f = round_fits _ _ c.loop-i.i c.args.rounds v.width c.loop-i-test.true c.loop-i.invariant.0 in
    (subst Width (sym v.width) c.requires.0, omega (arith, f, c.requires.2), fewer_words c.requires.3 (omega (arith, f)), v.words)

pub loop-i-preserved : goal.loop-i-preserved
loop-i-preserved c =
    let xs = c.args.state.now in
    let C = c.args.constants.now in
    let at = c.args.at in
    let i = c.loop-i.i in
    let v = c.loop-i.invariant.2 in
    let q : c.unround.new.state ≡ full_from (length xs) C at c.args.rounds xs (i - 1) =
    c.unround.ensures ∙ ap (λ (m : ℕ). unfull_round prime (drop (at + m * (i - 1)) C) c.loop-i.state) v.width
    ∙ full_more (length xs) C at c.args.rounds xs i c.loop-i.state c.requires.0 c.loop-i-test.true c.loop-i.invariant.0 v c.loop-i.invariant.1 in
    (omega arith, q, subst (State prime (length xs)) (sym q) (unfull_rounds-state _ _ xs c.requires.0 (record { width = refl; words = c.requires.1 })))

pub shape_of-state : goal.shape_of-state
shape_of-state c = c.loop-i.invariant.2.width

pub returns : goal.returns
returns c =
    let a = c.args in
    let xs = a.state.now in
    let e : c.loop-i.i ≡ 0 = omega arith in
    c.loop-i.invariant.1 ∙ ap (full_from (length xs) a.constants.now a.at a.rounds xs) e ∙ full_all (length xs) a.constants.now a.at a.rounds xs
