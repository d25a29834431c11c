-- Inverses put together.
use mathlib.Core.Path.{◌≡◌, refl, sym, ap, subst, ◌∙◌}
use mathlib.Core.List.{List}
use Prim.Native.Nat.{ℕ}
use Rattle.poseidon2.specs.Statements.{State, Undo, Merges}

pub no_undo : {p t : ℕ} → Undo p t (λ xs. xs) (λ xs. xs)
no_undo = record { to = λ xs s. s; from = λ xs s. s; back = λ xs s. refl; forth = λ xs s. refl }

-- one after the other
pub undo_then : {p t : ℕ} {f g h i : List ℕ → List ℕ} → Undo p t f g → Undo p t h i → Undo p t (λ xs. h (f xs)) (λ ys. g (i ys))
undo_then {p} {t} {f} {g} {h} {i} u v = record {
  to = λ xs s. v.to (f xs) (u.to xs s);
  from = λ ys s. u.from (i ys) (v.from ys s);
  back = λ xs s. ap g (v.back (f xs) (u.to xs s)) ∙ u.back xs s;
  forth = λ ys s. ap h (u.forth (i ys) (v.from ys s)) ∙ v.forth ys s;
}

-- maps that are the same on states
pub undo_same : {p t : ℕ} {f g h i : List ℕ → List ℕ} → ((xs : List ℕ) → State p t xs → f xs ≡ h xs) → ((ys : List ℕ) → State p t ys → g ys ≡ i ys)
    → Undo p t h i → Undo p t f g
undo_same {p} {t} {f} {g} {h} {i} e k u = record {
  to = λ xs s. subst (State p t) (sym (e xs s)) (u.to xs s);
  from = λ ys s. subst (State p t) (sym (k ys s)) (u.from ys s);
  back = λ xs s. ap g (e xs s) ∙ k (h xs) (u.to xs s) ∙ u.back xs s;
  forth = λ ys s. ap f (k ys s) ∙ e (i ys) (u.from ys s) ∙ u.forth ys s;
}

-- what merges two states is not undone
pub not_undone : {p t : ℕ} {f g : List ℕ → List ℕ} → Merges p t f → Undo p t f g → ⊥
not_undone {p} {t} {f} {g} m u =
    m.different (sym (u.back m.one m.one_state) ∙ ap g m.same_image ∙ u.back m.other m.other_state)
