-- A test of every number of a list, from its front on: a loop that stops where a number decides.
use mathlib.Core.Path.{◌≡◌, sym, ap, ◌∙◌}
use mathlib.Core.Bool.{Bool}
use mathlib.Core.List.{List, [], ◌∷◌}
use Prim.Native.Nat.{ℕ, ◌+◌, ◌-◌, ◌≤◌, ◌<◌}
use native.Mathlib.Numerals.{add-one}
use native.Mathlib.Omega.{arith}
use lib.ListN.{length, get_or, take, drop, length-drop, drop_of_length-le}
use lib.Seq.{take_all, drop-cons}

-- those before i have not decided
abbrev pub Undecided : (List ℕ → Bool) → List ℕ → ℕ → Type 0
Undecided test xs i = (i ≤ length xs) × (test xs ≡ test (drop i xs))

module _ (test : List ℕ → Bool) (xs : List ℕ) (i : ℕ) (U : Undecided test xs i) where
  -- the number at i decides, or leaves it to the rest
  pub decided : {b : Bool} → i < length xs → test (get_or xs i 0 ∷ drop (i + 1) xs) ≡ b → test xs ≡ b
  decided h e = U.1 ∙ ap test (rw (add-one, drop-cons xs i 0)) ∙ e

  pub undecided : i < length xs → test (get_or xs i 0 ∷ drop (i + 1) xs) ≡ test (drop (i + 1) xs) → Undecided test xs (i + 1)
  undecided h e = (omega arith, decided h e)

  pub decided_end : length xs ≤ i → test xs ≡ test []
  decided_end h = U.1 ∙ ap test (drop_of_length-le xs h)

  -- the part from i on decides
  pub decided_rest : test (take (length xs - i) (drop i xs)) ≡ test xs
  decided_rest = ap test (take_all (length xs - i) (drop i xs) (simp length-drop (omega arith))) ∙ sym U.1
