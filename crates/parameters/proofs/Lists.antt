-- The test of words four a turn.
use mathlib.Core.Path.{◌≡◌, sym, ap, ◌∙◌}
use mathlib.Core.Bool.{Bool, true, false, ◌&&◌}
use mathlib.Core.List.{List}
use Prim.Native.Nat.{ℕ, ◌+◌, ◌≤◌}
use lib.ListN.{length, drop}
use Rattle.modular.specs.Arithmetic.{all_words}
use Rattle.modular.proofs.Fours.{four_at}
use Rattle.modular.proofs.Undecided.{Undecided}
use Rattle.modular.proofs.Words.{words_four}

-- The loop that tests words four a turn: the four from i on, tested by the order, fail the list, or leave it to the rest.
module _ (p : ℕ) (xs : List ℕ) (i : ℕ) (U : Undecided (all_words p) xs i) (h : i + 4 ≤ length xs) {order : ℕ} (o : order ≡ p) {b : Bool} (e : b ≡ all_words order (four_at xs i)) where
  four_left : {r : Bool} → b ≡ r → all_words p xs ≡ (r && all_words p (drop (i + 4) xs))
  four_left f = U.1 ∙ words_four p xs i h ∙ ap (λ (r : Bool). r && all_words p (drop (i + 4) xs)) (sym (e ∙ ap (λ (q : ℕ). all_words q (four_at xs i)) o) ∙ f)

  pub four_fail : b ≡ false → all_words p xs ≡ false
  four_fail f = four_left f

  pub four_pass : b ≡ true → Undecided (all_words p) xs (i + 4)
  four_pass f = (h, four_left f)
