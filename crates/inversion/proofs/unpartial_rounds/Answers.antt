use mathlib.Core.Path.{◌≡◌, refl, sym, ap, subst, ◌∙◌}
use mathlib.Core.List.{List}
use Prim.Native.Nat.{ℕ, ◌+◌, ◌-◌, ◌%◌}
use native.Mathlib.Omega.{arith}
use lib.ListN.{length, get_or, take, set, length-set}
use Rattle.modular.specs.Arithmetic.{sub, seventh_root}
use Rattle.fields.specs.Prime.{prime}
use Rattle.poseidon2.specs.Inverse.{zero_place}
use Rattle.poseidon2.specs.Residues.{residues}
use Rattle.poseidon2.proofs.Words.{residues_words}
use Rattle.inversion.specs.Kept.{uninternal_by}
use Rattle.inversion.proofs.Residues.{set-residues, get_d_residues, less_word}
use Rattle.inversion.proofs.Blocks.{whole_width}
use Rattle.inversion.proofs.Rounds.{partial_from, partial_none, partial_all, partial_more, width_small}
use Rattle.inversion.proofs.unpartial_rounds.Goals as goal

pub loop-i-init : goal.loop-i-init
loop-i-init c =
    let a = c.args in
    let xs = a.state.now in
    (omega arith, residues_words xs c.requires.1 ∙ partial_none (take (length xs) a.inverses.now) a.total_inverse a.constants.now a.at a.rounds xs, refl)

pub uninternal-requires : goal.uninternal-requires
uninternal-requires c =
    let long = c.loop-i.invariant.2 in
    (c.requires.4 ∙ ap (λ (n : ℕ). zero_place (take n c.args.inverses.now)) (sym long), omega (arith, long, width_small c.requires.0), ap (λ (n : ℕ). n % 4) long ∙ whole_width c.requires.0, c.requires.5)

pub bounds-state-0 : goal.bounds-state-0
bounds-state-0 c =
    omega (arith, c.loop-i.invariant.2, width_small c.requires.0)

pub lazy_difference-requires : goal.lazy_difference-requires
lazy_difference-requires c =
    c.requires.3.at _ (omega arith)

pub bounds-state-0-in-loop-i : goal.bounds-state-0-in-loop-i
bounds-state-0-in-loop-i c =
    omega (arith, c.loop-i.invariant.2, width_small c.requires.0)

pub loop-i-preserved : goal.loop-i-preserved
loop-i-preserved c =
    let xs = c.args.state.now in
    let es = take (length xs) c.args.inverses.now in
    let k = c.args.total_inverse in
    let C = c.args.constants.now in
    let at = c.args.at in
    let i = c.loop-i.i in
    let zs = residues prime c.loop-i.state in
    let ys = c.uninternal.new.state in
    let r = c.lazy_difference.result in
    let f : residues prime ys ≡ uninternal_by prime es k zs =
    subst (λ (n : ℕ). residues prime ys ≡ uninternal_by prime (take n c.args.inverses.now) k zs) c.loop-i.invariant.2 c.uninternal.ensures in
    let d : r % prime ≡ sub prime (seventh_root prime (get_or (uninternal_by prime es k zs) 0 0)) (get_or C (at + (i - 1)) 0) =
    less_word (c.requires.3.at _ (omega arith)) c.lazy_seventh_root-root.ensures c.lazy_difference.ensures
    ∙ ap (λ (n : ℕ). sub prime (seventh_root prime n) (get_or C (at + (i - 1)) 0)) (sym (get_d_residues prime ys 0) ∙ ap (λ (l : List ℕ). get_or l 0 0) f) in
    let q : residues prime (set ys 0 r) ≡ partial_from es k C at c.args.rounds xs (i - 1) =
    set-residues prime ys 0 r
    ∙ ap (λ (l : List ℕ). set l 0 (r % prime)) f
    ∙ partial_more es k C at c.args.rounds xs i zs (r % prime) c.loop-i-test.true c.loop-i.invariant.0 c.loop-i.invariant.1 d in
    (omega arith, q, simp length-set (omega arith))

pub returns : goal.returns
returns c =
    let a = c.args in
    let xs = a.state.now in
    let es = take (length xs) a.inverses.now in
    let e : c.loop-i.i ≡ 0 = omega arith in
    c.settle.ensures ∙ c.loop-i.invariant.1
    ∙ ap (partial_from es a.total_inverse a.constants.now a.at a.rounds xs) e ∙ partial_all es a.total_inverse a.constants.now a.at a.rounds xs
