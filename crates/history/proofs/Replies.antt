-- Replies taken apart, and two entries whose refusals are the same but for some in front that do not apply.
use mathlib.Core.Path.{◌≡◌, refl, sym, ap, subst, ◌∙◌}
use mathlib.Core.List.{List, [], ◌++◌}
use Prim.Native.Nat.{ℕ, zero, suc}
use native.Mathlib.Omega.{arith}
use Rattle.refusals.specs.Table.{Refusal, first_refusal, refused, done, reply, after}
use Rattle.refusals.proofs.Table.{Numbered, reply_refused, reply_done, first_back, kept_after, written_after}

pub no_row : first_refusal [] ≡ 0
unfolding first_refusal
no_row = refl

-- refusals in front that do not apply, and results that are the same where none applies
pub same_reply : (front rows : List Refusal) (a b : List ℕ) → Numbered front → first_refusal front ≡ 0 → Numbered rows → Numbered (front ++ rows)
    → (first_refusal rows ≡ 0 → a ≡ b) → reply (front ++ rows) a ≡ reply rows b
same_reply front rows a b N e M O f = go (first_refusal rows) refl
  where
    go : (n : ℕ) → first_refusal rows ≡ n → reply (front ++ rows) a ≡ reply rows b
    go zero z = reply_done (front ++ rows) a O (first_back front rows N e ∙ z) ∙ ap done (f z) ∙ sym (reply_done rows b M z)
    go (suc n) z =
        reply_refused (front ++ rows) a (λ w. absurd (omega (arith, first_back front rows N e)))
        ∙ ap refused (first_back front rows N e)
        ∙ sym (reply_refused rows b (λ w. absurd (omega arith)))

-- what holds of what was and, where nothing is refused, of what is new, holds after the reply
pub after_holds : (P : List ℕ → Type 0) (rows : List Refusal) (result old new : List ℕ) → Numbered rows
    → P old → (first_refusal rows ≡ 0 → P new) → P (after (reply rows result) old new)
after_holds P rows result old new N o f = go (first_refusal rows) refl
  where
    go : (n : ℕ) → first_refusal rows ≡ n → P (after (reply rows result) old new)
    go zero z = subst P (written_after old new (reply_done rows result N z)) (f z)
    go (suc n) z = subst P (kept_after old new (reply_refused rows result (λ w. absurd (omega arith)))) o

-- what f makes of the old and of the new is what is left
pub after_through : (f : List ℕ → List ℕ) (rows : List Refusal) (result old new made : List ℕ) → Numbered rows
    → (first_refusal rows ≡ 0 → made ≡ f new) → after (reply rows result) (f old) made ≡ f (after (reply rows result) old new)
after_through f rows result old new made N g = go (first_refusal rows) refl
  where
    go : (n : ℕ) → first_refusal rows ≡ n → after (reply rows result) (f old) made ≡ f (after (reply rows result) old new)
    go zero z =
        sym (written_after (f old) made (reply_done rows result N z)) ∙ g z ∙ ap f (written_after old new (reply_done rows result N z))
    go (suc n) z =
        let r = reply_refused rows result (λ w. absurd (omega arith)) in
        sym (kept_after (f old) made r) ∙ ap f (kept_after old new r)
