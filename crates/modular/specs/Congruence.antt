-- Congruence modulo p (Rules 1.6). The fast path's numbers are any of 64 bits, and its contracts say what they are congruent to.
use Rattle.std.specs.Prelude.{◌≡◌, ℕ, ◌%◌}

infix 20 ◌≈⟨◌⟩◌
-- a and b leave the same remainder by p. (A record, so that all three are found from its type.)
pub record ◌≈⟨◌⟩◌ (a p b : ℕ) : Type 0 where
  pub same : a % p ≡ b % p
