-- Blocks of numbers below a bound.
use mathlib.Core.Path.{◌≡◌, subst}
use mathlib.Core.List.{List, []}
use Prim.Native.Nat.{ℕ, zero, suc, ◌+◌, ◌<◌, ◌≤◌}
use native.Mathlib.Omega.{arith}
use lib.ListN.{get_or}
use Rattle.poseidon2.specs.Statements.{Words}
use Rattle.blocks.specs.Blocks.{flat_from, flat}
use Rattle.blocks.specs.Halves.{Within, AllWithin}

-- Numbers below a bound m are within the number n before it.
module _ {m : ℕ} (n : ℕ) (h : m ≤ n + 1) (bs : List (List ℕ)) where
  within_from : (c i : ℕ) → Words m (flat_from i c bs) → (k : ℕ) → k < c → Within n (get_or bs (i + k) [])
  within_from zero i w k b = absurd (omega arith)
  within_from (suc c) i w zero b =
      let z : i ≡ i + 0 = omega arith in
      subst (λ (j : ℕ). Within n (get_or bs j [])) z
      (record { at0 = omega (arith, h, w.at 0); at1 = omega (arith, h, w.at 1); at2 = omega (arith, h, w.at 2); at3 = omega (arith, h, w.at 3) })
  within_from (suc c) i w (suc k) b =
      let z : suc i + k ≡ i + suc k = omega arith in
      subst (λ (j : ℕ). Within n (get_or bs j [])) z (within_from c (suc i) (record { at = λ j. w.at (suc (suc (suc (suc j)))) }) k (omega arith))

  pub all_within : (c : ℕ) → Words m (flat c bs) → AllWithin n c bs
  all_within c w = record {
    at =
        λ k b.
        let z : 0 + k ≡ k = omega arith in
        subst (λ (j : ℕ). Within n (get_or bs j [])) z (within_from c 0 w k b);
  }
