use Rattle.std.proofs.Common.{◌≡◌, [], ◌∷◌, true, false}
use borrow.Author.Tests.{eq-eqb, not-true, not-false}
use Rattle.refusals.specs.Table.{refused, done}
use Rattle.records.specs.declared.tally.Tally.{Tally}
use Rattle.push_entries.specs.Ends.{finish_of}
use Rattle.push_entries.proofs.ends.finish.Goals as goal

-- what the tests before leave
module _ (t : Tally) (z : t.number ≡ 0) where
  misplaced : t.placed ≡ false → refused 11 ≡ finish_of t
  unfolding finish_of
  misplaced p = simp (eq-eqb _ _ z, p)

  no_words : t.placed ≡ true → t.words ≡ false → refused 12 ≡ finish_of t
  unfolding finish_of
  no_words p w = simp (eq-eqb _ _ z, p, w)

  twice : t.placed ≡ true → t.words ≡ true → t.distinct ≡ false → refused 17 ≡ finish_of t
  unfolding finish_of
  twice p w d = simp (eq-eqb _ _ z, p, w, d)

  made : t.placed ≡ true → t.words ≡ true → t.distinct ≡ true → done (t.made ∷ []) ≡ finish_of t
  unfolding finish_of
  made p w d = simp (eq-eqb _ _ z, p, w, d)

pub returns-then-not-tally : goal.returns-then-not-tally
returns-then-not-tally c z = misplaced _ z (not-true _ c.if-not-tally.true)

pub returns-then-not-tally-2 : goal.returns-then-not-tally-2
returns-then-not-tally-2 c z = no_words _ z (not-false _ c.if-not-tally.false) (not-true _ c.if-not-tally-2.true)

pub returns-then-not-tally-3 : goal.returns-then-not-tally-3
returns-then-not-tally-3 c z = twice _ z (not-false _ c.if-not-tally.false) (not-false _ c.if-not-tally-2.false) (not-true _ c.if-not-tally-3.true)

pub returns : goal.returns
returns c z = made _ z (not-false _ c.if-not-tally.false) (not-false _ c.if-not-tally-2.false) (not-false _ c.if-not-tally-3.false)
