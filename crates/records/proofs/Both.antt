-- Two tests, one after the other, as `&&` makes them.
use mathlib.Core.Path.{◌≡◌, sym, ap, ◌∙◌}
use mathlib.Core.Bool.{Bool, true, false, ◌&&◌}

pub both_asked : {a b r : Bool} → a ≡ true → r ≡ b → r ≡ (a && b)
both_asked {b} e f = f ∙ ap (λ (x : Bool). x && b) (sym e)

pub second_unasked : {a r : Bool} (b : Bool) → a ≡ false → r ≡ a → r ≡ (a && b)
second_unasked b e f = f ∙ e ∙ ap (λ (x : Bool). x && b) (sym e)
