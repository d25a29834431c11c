use mathlib.Core.Path.{◌≡◌, ap}
use native.Mathlib.Omega.{arith}
use Rattle.repeats.specs.Maps.{Noting}
use Rattle.repeats.proofs.Notes.{note_before, note_behind, note_again, note_fits, note_new}
use Rattle.repeats.proofs.maps.note.Goals as goal

-- the two equations, from that of the whole
both : {m n : Noting} → m ≡ n → (m.again ≡ n.again) × (m.map ≡ n.map)
both e = (ap (λ (n : Noting). n.again) e, ap (λ (n : Noting). n.map) e)

pub returns-then-number-base : goal.returns-then-number-base
returns-then-number-base c = both (note_before _ _ _ c.if-number-base.true)

pub returns-then-at-ge-WINDOW : goal.returns-then-at-ge-WINDOW
returns-then-at-ge-WINDOW c = both (note_behind _ _ _ c.if-number-base.false c.if-at-ge-WINDOW.true)

pub returns-then-word-bit-eq1 : goal.returns-then-word-bit-eq1
returns-then-word-bit-eq1 c = both (note_again _ _ _ c.if-number-base.false c.if-at-ge-WINDOW.false c.if-word-bit-eq1.true)

pub overflow_add-map : goal.overflow_add-map
overflow_add-map c =
    let a = c.args in
    record { fits = note_fits a.base a.number a.map.now c.if-number-base.false c.if-at-ge-WINDOW.false c.if-word-bit-eq1.false (omega arith) }

pub returns : goal.returns
returns c = both (note_new _ _ _ c.if-number-base.false c.if-at-ge-WINDOW.false c.if-word-bit-eq1.false)
