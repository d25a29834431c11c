use mathlib.Core.Path.{◌≡◌, sym}
use mathlib.Core.Bool.{false}
use native.Mathlib.Omega.{arith}
use Rattle.std.proofs.lemmas.Bool.{not-true}
use Rattle.std.specs.Int.{div_ceil}
use Rattle.records.specs.Tests.{search_end, wanted}
use Rattle.records.proofs.testing.windows_searched.Goals as goal

pub returns-then-not-tally-2 : goal.returns-then-not-tally-2
unfolding search_end wanted
returns-then-not-tally-2 c =
    let t = c.args.tally in
    let rising : t.rising ≡ false = not-true t.rising c.if-not-tally.true in
    let few : t.few ≡ false = not-true t.few c.if-not-tally-2.true in
    let windows : c.div_ceil.result ≡ div_ceil t.places 1048576 = c.div_ceil.ensures in
    rw (sym c.if-is_clear.ensures, rising, few) (omega (arith, windows))
