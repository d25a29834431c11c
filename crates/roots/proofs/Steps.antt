-- The chain as a loop over its steps: the exponents that are reached.
use mathlib.Core.Path.{◌≡◌, sym, ap, subst, ◌∙◌}
use mathlib.Core.List.{List}
use Prim.Native.Nat.{ℕ, zero, suc, ◌+◌, ◌*◌, ◌^◌}
use native.Mathlib.Numerals.{add-one}
use lib.ListN.{get_or}
use Rattle.modular.specs.Goldilocks.{p, root_exponent}
use Rattle.poseidon2.specs.Residues.{residues}
use Rattle.roots.specs.Powers.{products, powers}
use Rattle.roots.specs.declared.step.Factor.{Factor}
use Rattle.roots.specs.declared.step.Factor.TheVariants.{Word, Reached, Same}
use Rattle.roots.specs.declared.step.TheConstants.{CHAIN}
use Rattle.roots.proofs.Chain.{Stand, stand_one, stand_raised}

-- how often step k squares, and what it multiplies by
abbrev pub step : ℕ → ℕ × Factor
step k = get_or CHAIN k (0, Word)

-- among the words, the numbers reached, and what the step before multiplied by
abbrev pub chosen : {A : Type 0} → Factor → A → A → A → A
chosen Word words reached before = words
chosen Reached words reached before = reached
chosen Same words reached before = before

-- the exponents after k steps: that of the numbers reached, and that of what the last step multiplied by
record Exponents : Type 0 where
  numbers : ℕ
  factor : ℕ

after_step : ℕ × Factor → Exponents → Exponents
after_step s e =
    let f = chosen s.1 1 e.numbers e.factor in
    record { numbers = e.numbers * 2 ^ s.0 + f; factor = f }

after : ℕ → Exponents
after zero = record { numbers = 1; factor = 1 }
after (suc k) = after_step (step k) (after k)

-- after k steps the numbers xs, and the factors fs, stand for these powers of the words
pub record After (ws : List ℕ) (k : ℕ) (xs fs : List ℕ) : Type 0 where
  numbers : Stand (after k).numbers ws xs
  factor : Stand (after k).factor ws fs

pub after_none : (ws : List ℕ) → After ws 0 ws ws
unfolding after
after_none ws = record { numbers = stand_one ws; factor = stand_one ws }

chosen_stands : {ws xs fs : List ℕ} (k : ℕ) → After ws k xs fs → (by : Factor)
    → Stand (chosen by 1 (after k).numbers (after k).factor) ws (chosen by ws xs fs)
chosen_stands {ws} k h Word = stand_one ws
chosen_stands k h Reached = h.numbers
chosen_stands k h Same = h.factor

pub after_more : {ws xs fs : List ℕ} (k : ℕ) → After ws k xs fs → {by : Factor} → (step k).1 ≡ by → (gs rs : List ℕ) → gs ≡ chosen by ws xs fs
    → residues p rs ≡ products p (powers p (2 ^ (step k).0) xs) gs → After ws (k + 1) rs gs
unfolding after after_step
after_more {ws} {xs} {fs} k h e gs rs same made =
    let e' : gs ≡ chosen (step k).1 ws xs fs = same ∙ ap (λ (by : Factor). chosen by ws xs fs) (sym e) in
    let stands : Stand (chosen (step k).1 1 (after k).numbers (after k).factor) ws gs =
    subst (λ (ys : List ℕ). Stand (chosen (step k).1 1 (after k).numbers (after k).factor) ws ys) (sym e') (chosen_stands k h (step k).1) in
    subst (λ (n : ℕ). After ws n rs gs) (sym (add-one k)) (record { numbers = stand_raised (step k).0 rs h.numbers stands made; factor = stands })

-- after all steps
pub after_all : {ws xs fs : List ℕ} (k : ℕ) → After ws k xs fs → k ≡ 9 → Stand root_exponent ws xs
unfolding after after_step
after_all {ws} {xs} k h e = subst (λ (n : ℕ). Stand (after n).numbers ws xs) e h.numbers
