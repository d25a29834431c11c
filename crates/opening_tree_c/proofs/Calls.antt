-- A call under a set that is read from an array: what the entry does with the set that the array is. `w` is what the code has in hand, `v`
-- what the definitions say of it. A law is named after what its call leaves beside the number that it returns.
use mathlib.Core.Path.{◌≡◌, ap, ◌∙◌}
use mathlib.Core.List.{List}
use Prim.Native.Nat.{ℕ}
use Rattle.refusals.specs.Table.{Reply}
use Rattle.parameters.specs.declared.ParameterSet.{ParameterSet}
use Rattle.parameters.specs.ParameterSet.{Validation}
use Rattle.replies.specs.Replies.{number_of, verdict_number, value_at}
use Rattle.opening_tree_c.specs.Exports.{array_after}

-- the same reply as numbers
number_of_lem : {r : ℕ} {a b : Reply} → r ≡ number_of a → a ≡ b → r ≡ number_of b
number_of_lem f g = f ∙ ap number_of g

value_of : (i x : ℕ) {x' : ℕ} {a b : Reply} → x' ≡ value_at i a x → a ≡ b → x' ≡ value_at i b x
value_of i x f g = f ∙ ap (λ (a : Reply). value_at i a x) g

-- of an entry that takes no set
pub same_value : (x : ℕ) {r x' : ℕ} {a b : Reply} → (r ≡ number_of a) × (x' ≡ value_at 0 a x) → a ≡ b → (r ≡ number_of b) × (x' ≡ value_at 0 b x)
same_value x f g = (number_of_lem f.0 g, value_of 0 x f.1 g)

-- `f` is what is read of the reply `a`, and `g` that the reply and what is left are the entry's
module _ {w v : ParameterSet} (e : w ≡ v) (entry : ParameterSet → Reply) where
  as_entry : {a : Reply} → a ≡ entry w → a ≡ entry v
  as_entry g = g ∙ ap entry e

  as_work : (work : ParameterSet → List ℕ) {xs : List ℕ} → xs ≡ work w → xs ≡ work v
  as_work work g = g ∙ ap work e

  pub entry_verdict : {r : ℕ} {a : Reply} → r ≡ verdict_number a → a ≡ entry w → r ≡ verdict_number (entry v)
  entry_verdict f g = f ∙ ap verdict_number (as_entry g)

  pub entry_values :
      (x y z : ℕ) {r x' y' z' : ℕ} {a : Reply}
      → (r ≡ number_of a) × (x' ≡ value_at 0 a x) × (y' ≡ value_at 1 a y) × (z' ≡ value_at 2 a z) → a ≡ entry w
      → (r ≡ number_of (entry v)) × (x' ≡ value_at 0 (entry v) x) × (y' ≡ value_at 1 (entry v) y) × (z' ≡ value_at 2 (entry v) z)
  entry_values x y z f g =
      let h = as_entry g in
      (number_of_lem f.0 h, value_of 0 x f.1 h, value_of 1 y f.2 h, value_of 2 z f.3 h)

  pub entry_buffer : (work : ParameterSet → List ℕ) {r : ℕ} {a : Reply} {xs' : List ℕ}
      → r ≡ number_of a → (a ≡ entry w) × (xs' ≡ work w) → (r ≡ number_of (entry v)) × (xs' ≡ work v)
  entry_buffer work f g = (number_of_lem f (as_entry g.0), as_work work g.1)

  pub entry_buffer_value : (work : ParameterSet → List ℕ) (x : ℕ) {r x' : ℕ} {a : Reply} {xs' : List ℕ}
      → (r ≡ number_of a) × (x' ≡ value_at 0 a x) → (a ≡ entry w) × (xs' ≡ work w)
      → (r ≡ number_of (entry v)) × (xs' ≡ work v) × (x' ≡ value_at 0 (entry v) x)
  entry_buffer_value work x f g =
      let h = as_entry g.0 in
      (number_of_lem f.0 h, as_work work g.1, value_of 0 x f.1 h)

  pub entry_buffers_value : (work work' : ParameterSet → List ℕ) (x : ℕ) {r x' : ℕ} {a : Reply} {xs' ys' : List ℕ}
      → (r ≡ number_of a) × (x' ≡ value_at 0 a x) → (a ≡ entry w) × (xs' ≡ work w) × (ys' ≡ work' w)
      → (r ≡ number_of (entry v)) × (xs' ≡ work v) × (ys' ≡ work' v) × (x' ≡ value_at 0 (entry v) x)
  entry_buffers_value work work' x f g =
      let h = as_entry g.0 in
      (number_of_lem f.0 h, as_work work g.1, as_work work' g.2, value_of 0 x f.1 h)

-- an answer's number and set, to an array
pub answer_given : (old : List ℕ) {r : ℕ} {xs : List ℕ} {w v : Validation} → (r ≡ w.number) × (xs ≡ array_after w old) → w ≡ v
    → (r ≡ v.number) × (xs ≡ array_after v old)
answer_given old f e = (f.0 ∙ ap (λ (u : Validation). u.number) e, f.1 ∙ ap (λ (u : Validation). array_after u old) e)
