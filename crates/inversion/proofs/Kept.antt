-- M_I undone as the code does it, and the inverse permutation from D's own inverses.
use mathlib.Core.Path.{◌≡◌, refl, sym, ap, ap₂, ◌∙◌}
use mathlib.Core.Logic.{◌≢◌}
use mathlib.Core.Bool.{Bool, true, false, cond}
use mathlib.Core.List.{List, [], ◌∷◌}
use Prim.Native.Nat.{ℕ, zero, suc, ◌+◌, ◌*◌, ◌-◌, ◌%◌, ◌<◌, ◌≤◌}
use native.Mathlib.Nat.{mod-mod, mod-lt}
use native.Mathlib.Decide.{ℕ_discrete}
use native.Mathlib.Omega.{arith}
use lib.Dec.{ltb}
use lib.ListN.{length, get_or, take, drop, set}
use lib.Seq.{set_out}
use borrow.Author.Tests.{eq-eqb, ne_eqb, lt-ltb, le-ltb}
use Rattle.modular.specs.Arithmetic.{sub, mul}
use Rattle.fields.specs.Prime.{prime}
use Rattle.modular.specs.Congruence.{◌≈⟨◌⟩◌}
use Rattle.modular.proofs.Congruence.{eq≈, trans≈, mod≈}
use Rattle.fields.proofs.Prime.{positive, prime_laws}
use Rattle.poseidon2.specs.Layers.{sum, dot}
use Rattle.poseidon2.specs.Inverse.{inverses, multiples_less, zeros, zero_place, total_inverse, uninternal_by_sum, uninternal_at_zero, uninternal, sub_lists, unexternal, unraise_first, unpartial_round, unfull_rounds, unpartial_rounds, unpermute_at}
use Rattle.poseidon2.specs.Statements.{Words}
use Rattle.poseidon2.proofs.Words.{cons_eq}
use Rattle.poseidon2.proofs.Zeros.{place_none, place_some, zeros_inverses, place_inverses}
use Rattle.poseidon2.proofs.Internal.{multiples_less-length}
use Rattle.poseidon2.proofs.Rounds.{unpermute_at_lem}
use Rattle.inversion.specs.Kept.{old_sum, uninternal_by, unpartial_round_by, unpartial_rounds_by, unpermute_by, Own}

-- places beyond the words aren't read
pub multiples_less-take : (p s : ℕ) (es ys : List ℕ) → multiples_less p s (take (length ys) es) ys ≡ multiples_less p s es ys
unfolding multiples_less
multiples_less-take p s es [] = refl
multiples_less-take p s [] (y ∷ ys) = refl
multiples_less-take p s (e ∷ es) (y ∷ ys) = cons_eq refl (multiples_less-take p s es ys)

pub sub_lists-take : (p : ℕ) (xs cs : List ℕ) → sub_lists p xs (take (length xs) cs) ≡ sub_lists p xs cs
unfolding sub_lists
sub_lists-take p [] cs = refl
sub_lists-take p (x ∷ xs) [] = refl
sub_lists-take p (x ∷ xs) (c ∷ cs) = cons_eq refl (sub_lists-take p xs cs)

-- what is taken from each word may be any number with its residue
pub multiples_less-same : (p : ℕ) {s z : ℕ} → s ≈⟨ p ⟩ z → (es ys : List ℕ) → multiples_less p s es ys ≡ multiples_less p z es ys
unfolding multiples_less sub
multiples_less-same p h es [] = refl
multiples_less-same p h es (y ∷ ys) =
    cons_eq (ap (λ (n : ℕ). mul p (get_or es 0 0) ((y + (p - n)) % p)) h.same) (multiples_less-same p h (drop 1 es) ys)

-- what the code puts in the zero's place: a difference by a sum modulo p
pub sub-sum : (s total : ℕ) (st : List ℕ) → total ≡ sum st % prime → sub prime s total ≡ sub prime s (sum st)
unfolding sub
sub-sum s total st e = ap (λ (m : ℕ). (s + (prime - m)) % prime) (ap (λ (m : ℕ). m % prime) e ∙ mod-mod (sum st) prime)

module _ (z : ℕ) (es : List ℕ) (k : ℕ) (ys : List ℕ) where
  pub sum-there : z < length ys → old_sum prime z es k ys ≡ get_or ys z 0
  unfolding old_sum
  sum-there h = rw (lt-ltb z (length ys) h) refl

  pub sum-made : length ys ≤ z → old_sum prime z es k ys ≡ dot es ys * k % prime
  unfolding old_sum
  sum-made h = rw (le-ltb z (length ys) h) refl

  pub sum-word : Words prime ys → old_sum prime z es k ys < prime
  unfolding old_sum
  sum-word w = of (ltb z (length ys))
    where
      of : (b : Bool) → cond b (get_or ys z 0) (dot es ys * k % prime) < prime
      of true = w.at z
      of false = mod-lt (dot es ys * k) positive

  -- the old sum, the others by it, and what they leave of it in the zero's place: where there is none nothing is put
  pub by_old_sum : (s : ℕ) (st : List ℕ) → z ≡ zero_place es → length es ≡ length ys → s ≡ old_sum prime z es k ys → st ≡ multiples_less prime s es ys
      → set st z (sub prime s (sum st)) ≡ uninternal_by prime es k ys
  unfolding uninternal_by uninternal_at_zero uninternal_by_sum
  by_old_sum s st e l f g = of (ℕ_discrete (zeros es) 0)
    where
      of : Dec (zeros es ≡ 0) → set st z (sub prime s (sum st)) ≡ uninternal_by prime es k ys
      of (no o) =
          let here : s ≡ get_or ys z 0 = f ∙ sum-there (omega (arith, place_some es o)) in
          rw (ne_eqb (zeros es) 0 o)
          (ap (λ (l : List ℕ). set l z (sub prime s (sum l))) g
          ∙ ap₂ (λ (m n : ℕ). set (multiples_less prime m es ys) n (sub prime m (sum (multiples_less prime m es ys)))) (here ∙ ap (λ (n : ℕ). get_or ys n 0) e) e)
      of (yes n) =
          let beyond : length ys ≤ z = omega (arith, place_none es n) in
          let same : s ≈⟨ prime ⟩ dot es ys * k = trans≈ (eq≈ (f ∙ sum-made beyond)) (mod≈ (dot es ys * k)) in
          rw (eq-eqb (zeros es) 0 n)
          (set_out st z (sub prime s (sum st)) (omega (arith, ap length g ∙ multiples_less-length prime s es ys)) ∙ g ∙ multiples_less-same prime same es ys)

-- ---- D's own inverses

uninternal_own : (D ys : List ℕ) → Words prime D → uninternal_by prime (inverses prime D) (total_inverse prime D) ys ≡ uninternal prime D ys
unfolding uninternal_by uninternal total_inverse
uninternal_own D ys w = of (zeros D) refl
  where
    same : zeros (inverses prime D) ≡ zeros D
    same = zeros_inverses prime_laws.inverses D w

    of : (n : ℕ) → zeros D ≡ n → uninternal_by prime (inverses prime D) (total_inverse prime D) ys ≡ uninternal prime D ys
    of zero z = rw (eq-eqb (zeros (inverses prime D)) 0 (same ∙ z), eq-eqb (zeros D) 0 z) refl
    of (suc n) z =
        let some : zeros D ≢ 0 = λ e. absurd (omega arith) in
        rw (ne_eqb (zeros (inverses prime D)) 0 (λ e. some (sym same ∙ e)), ne_eqb (zeros D) 0 some)
        (ap (λ (n : ℕ). uninternal_at_zero prime n (inverses prime D) ys) (place_inverses prime_laws.inverses D w))

unpartial_rounds-own : (D : List ℕ) → Words prime D → (n : ℕ) (cs ys : List ℕ)
    → unpartial_rounds_by prime (inverses prime D) (total_inverse prime D) n cs ys ≡ unpartial_rounds prime D n cs ys
unfolding unpartial_rounds_by unpartial_round_by unpartial_rounds unpartial_round
unpartial_rounds-own D w zero cs ys = refl
unpartial_rounds-own D w (suc n) cs ys =
    ap (unraise_first prime (get_or cs 0 0))
    (ap (uninternal_by prime (inverses prime D) (total_inverse prime D)) (unpartial_rounds-own D w n (drop 1 cs) ys)
    ∙ uninternal_own D (unpartial_rounds prime D n (drop 1 cs) ys) w)

pub own : Own prime
unfolding unpermute_by unpermute_at
own t half rp D es C ys w e l =
    let zs : List ℕ = unfull_rounds prime t half (drop (t * half + rp) C) ys in
    ap (λ (xs : List ℕ). unexternal prime (unfull_rounds prime t half C xs))
    (ap (λ (is : List ℕ). unpartial_rounds_by prime is (total_inverse prime (take t D)) rp (drop (t * half) C) zs) e
    ∙ unpartial_rounds-own (take t D) w rp (drop (t * half) C) zs)
    ∙ sym (unpermute_at_lem prime t half rp D C ys l)
