use Rattle.std.proofs.Common.{◌≡◌, ℕ, ◌<◌, ◌^◌, ltb, min, sym, ap, ◌∙◌, arith}
use borrow.Author.Tests.{lt-ltb, le-ltb}
use native.Mathlib.Decide.{dec_lt}
use Rattle.parameters.specs.Refusals.{bad_height}
use Rattle.parameters.proofs.bad_height.Goals as goal

-- a cap above 2^32 hides no number of leaves that is above it
capped : (n : ℕ) → ltb 4294967296 (min n 18446744073709551615) ≡ ltb 4294967296 n
capped n = of (dec_lt 4294967296 n)
  where
    of : Dec (4294967296 < n) → ltb 4294967296 (min n 18446744073709551615) ≡ ltb 4294967296 n
    of (yes h) = lt-ltb _ _ (omega arith) ∙ sym (lt-ltb _ _ h)
    of (no o) = le-ltb _ _ (omega arith) ∙ sym (le-ltb _ _ (omega arith))

pub returns-else-height-gt32 : goal.returns-else-height-gt32
unfolding bad_height
returns-else-height-gt32 c =
    ap (ltb 4294967296) c.saturating_pow.ensures ∙ capped (c.args.arity ^ c.args.height) ∙ sym (rw (le-ltb 32 c.args.height c.if-height-gt32.false))
