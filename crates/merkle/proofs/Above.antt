-- How many nodes there are above listed places.
use mathlib.Core.Path.{◌≡◌, refl}
use mathlib.Core.Bool.{true, cond}
use mathlib.Core.List.{List, [], ◌∷◌, map}
use Prim.Native.Nat.{ℕ, suc, ◌*◌, ◌^◌, ◌≤◌, ◌<◌}
use native.Mathlib.Nat.{mul-zero}
use native.Mathlib.Omega.{arith}
use lib.ListN.{length, length-map}
use Rattle.repeats.specs.Repeats.{member}
use Rattle.merkle.specs.Lists.{sum}
use Rattle.merkle.specs.Levels.{Shape, Regular, count}
use Rattle.merkle.specs.Openings.{over}
use Rattle.merkle.specs.Above.{once, above_at, nodes_above}
use Rattle.merkle.proofs.Lists.{sum-most, sum_ones}
use Rattle.merkle.proofs.Members.{map-member, length-once, once_count}
use Rattle.merkle.proofs.Openings.{over_below}

-- with two leaves to a row and one row, the root alone stands above both leaves
above_both : nodes_above 2 1 (1 ∷ 0 ∷ []) ≡ 1
unfolding nodes_above above_at once member sum
above_both = refl

module _ (S : Shape) (G : Regular S) where
  open S use {arity as k}

  pub above_most : (h : ℕ) (qs : List ℕ) → nodes_above k h qs ≤ h * length qs
  unfolding nodes_above above_at
  above_most h qs =
      sum-most (λ j. length (above_at k qs (suc j))) (length qs) h
      (λ j b. omega (arith, length-once (map (λ q. over S q (suc j)) qs), length-map qs (λ q. over S q (suc j))))

  pub above_none : (h : ℕ) → nodes_above k h [] ≡ 0
  above_none h = omega (arith, above_most h [], mul-zero h)

  pub above_single : (h q : ℕ) → nodes_above k h (q ∷ []) ≡ h
  unfolding nodes_above above_at once member
  above_single h q = sum_ones h

  pub above_each : (h j : ℕ) (qs : List ℕ) → j ≤ h → ((q : ℕ) → member q qs ≡ true → q < k ^ h)
      → length (above_at k qs j) ≡ sum (λ i. cond (member i (map (λ q. over S q j) qs)) 1 0) (count S h j)
  unfolding above_at
  above_each h j qs b inside =
      once_count (count S h j) (map (λ q. over S q j) qs)
      (λ i e. let r = map-member (λ q. over S q j) i qs e in omega (arith, r.2, over_below S G h r.0 j (inside r.0 r.1) b))
