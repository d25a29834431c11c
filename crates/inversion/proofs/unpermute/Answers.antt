use mathlib.Core.Path.{refl, sym, ap, subst, ◌∙◌}
use Prim.Native.Nat.{ℕ, ◌*◌}
use native.Mathlib.Omega.{arith}
use lib.ListN.{length, take, drop}
use Rattle.fields.specs.Prime.{prime}
use Rattle.poseidon2.specs.Inverse.{zero_place, unexternal, unfull_rounds}
use Rattle.poseidon2.specs.Statements.{Width}
use Rattle.inversion.specs.Kept.{unpartial_rounds_by, unpermute_by}
use Rattle.inversion.proofs.Rounds.{full_step, partial_step, halves, fewer_words, width_small}
use Rattle.inversion.proofs.unpermute.Goals as goal

pub overflow_mul-middle : goal.overflow_mul-middle
overflow_mul-middle c =
    omega (arith, halves c.args.width c.args.half c.requires.width refl c.requires.full)

pub overflow_add-middle : goal.overflow_add-middle
overflow_add-middle c =
    omega (arith, halves c.args.width c.args.half c.requires.width refl c.requires.full, c.requires.partial)

pub zero_place-zero-requires : goal.zero_place-zero-requires
zero_place-zero-requires c = omega (arith, width_small c.requires.width)

pub unfull_rounds-requires : goal.unfull_rounds-requires
unfull_rounds-requires c =
    let a = c.args in
    let s0 = c.requires.state in
    let h = halves (length a.state.now) a.half c.requires.width c.requires.state.width c.requires.full in
    (subst Width (sym c.requires.state.width) c.requires.width, c.requires.state.words, omega (arith, h, c.requires.partial), fewer_words c.requires.constants (omega (arith, h)))

pub unpartial_rounds-requires : goal.unpartial_rounds-requires
unpartial_rounds-requires c =
    let a = c.args in
    let s0 = c.requires.state in
    let h = halves (length a.state.now) a.half c.requires.width c.requires.state.width c.requires.full in
    let x1 = full_step _ _ _ c.requires.width s0 c.unfull_rounds.ensures in
    (subst Width (sym x1.1.width) c.requires.width, x1.1.words, omega (arith, h, c.requires.partial), fewer_words c.requires.constants (omega (arith, h)), c.zero_place-zero.ensures ∙ ap (λ (n : ℕ). zero_place (take n a.inverses.now)) (sym x1.1.width), omega arith)

pub unfull_rounds-requires-2 : goal.unfull_rounds-requires-2
unfull_rounds-requires-2 c =
    let a = c.args in
    let s0 = c.requires.state in
    let h = halves (length a.state.now) a.half c.requires.width c.requires.state.width c.requires.full in
    let x1 = full_step _ _ _ c.requires.width s0 c.unfull_rounds.ensures in
    let x2 = partial_step _ _ _ _ _ x1.1 c.unpartial_rounds.ensures in
    let g = halves _ a.half c.requires.width x2.1.width c.requires.full in
    (subst Width (sym x2.1.width) c.requires.width, x2.1.words, omega (arith, g), fewer_words c.requires.constants (omega (arith, g)))

pub unexternal-requires : goal.unexternal-requires
unexternal-requires c =
    let a = c.args in
    let s0 = c.requires.state in
    let h = halves (length a.state.now) a.half c.requires.width c.requires.state.width c.requires.full in
    let x1 = full_step _ _ _ c.requires.width s0 c.unfull_rounds.ensures in
    let x2 = partial_step _ _ _ _ _ x1.1 c.unpartial_rounds.ensures in
    let x3 = full_step _ _ _ c.requires.width x2.1 c.unfull_rounds-2.ensures in
    (subst Width (sym x3.1.width) c.requires.width, x3.1.words)

pub returns : goal.returns
unfolding unpermute_by
returns c =
    let a = c.args in
    let s0 = c.requires.state in
    let h = halves (length a.state.now) a.half c.requires.width c.requires.state.width c.requires.full in
    let x1 = full_step _ _ _ c.requires.width s0 c.unfull_rounds.ensures in
    let x2 = partial_step _ _ _ _ _ x1.1 c.unpartial_rounds.ensures in
    let x3 = full_step _ _ _ c.requires.width x2.1 c.unfull_rounds-2.ensures in
    c.unexternal.ensures
    ∙ ap (unexternal prime) (x3.0 ∙ ap (unfull_rounds prime a.width a.half a.constants.now) (x2.0
    ∙ ap (unpartial_rounds_by prime (take a.width a.inverses.now) a.total_inverse a.partial_rounds (drop (a.width * a.half) a.constants.now)) x1.0))
