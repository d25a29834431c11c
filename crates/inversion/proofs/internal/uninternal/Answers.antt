use mathlib.Core.Path.{◌≡◌, sym, ap, ◌∙◌}
use Prim.Native.Nat.{ℕ, ◌<◌}
use native.Mathlib.Omega.{arith}
use lib.ListN.{length, take}
use lib.Seq.{length-take-le}
use Rattle.fields.specs.Prime.{prime}
use Rattle.fields.proofs.Prime.{positive}
use Rattle.poseidon2.specs.Inverse.{multiples_less}
use Rattle.poseidon2.specs.Residues.{residues}
use Rattle.poseidon2.proofs.Words.{residues_length, residues_are_words}
use Rattle.inversion.proofs.Kept.{multiples_less-take, sum-word, by_old_sum}
use Rattle.inversion.proofs.internal.uninternal.Goals as goal
use Rattle.inversion.proofs.internal.uninternal.Goals.{After-old_sum-s, Start}

-- as many inverses are read as there are words
as_many : (s : Start) → length (take (length s.args.state.now) s.args.inverses.now) ≡ length (residues prime s.args.state.now)
as_many s =
    length-take-le (length s.args.state.now) s.args.inverses.now (omega (arith, s.requires.1, s.requires.3)) ∙ sym (residues_length prime s.args.state.now)

-- the sum is a word
word : (c : After-old_sum-s) → c.old_sum-s.result < prime
word c =
    let a = c.args in
    rw c.old_sum-s.ensures (sum-word a.zero _ a.total_inverse (residues prime a.state.now) (residues_are_words positive a.state.now))

pub multiples_less-requires : goal.multiples_less-requires
multiples_less-requires c =
    (word (goal.at.multiples_less-requires c).After-old_sum-s, c.requires.1)

pub put_rest-requires : goal.put_rest-requires
put_rest-requires c =
    (word (goal.at.put_rest-requires c).After-old_sum-s, omega arith)

pub returns : goal.returns
returns c =
    let s = (goal.at.returns c).Start in
    let a = c.args in
    let n = length a.state.now in
    let ys = residues prime a.state.now in
    let same : multiples_less prime c.old_sum-s.result (take n a.inverses.now) ys ≡ multiples_less prime c.old_sum-s.result a.inverses.now ys =
    ap (λ (k : ℕ). multiples_less prime c.old_sum-s.result (take k a.inverses.now) ys) (sym (residues_length prime a.state.now))
    ∙ multiples_less-take prime c.old_sum-s.result a.inverses.now ys in
    c.put_rest.ensures
    ∙ by_old_sum a.zero (take n a.inverses.now) a.total_inverse ys c.old_sum-s.result _ c.requires.0 (as_many s) c.old_sum-s.ensures
    (c.multiples_less.ensures ∙ sym same)
