-- A refusal that applies is the reply, and one that does not leaves it to those after it.
use mathlib.Core.Path.{◌≡◌, refl, sym, ap, subst, ◌∙◌}
use mathlib.Core.Logic.{◌≢◌}
use mathlib.Core.Bool.{Bool, true, false, cond, not}
use mathlib.Core.List.{List, [], ◌∷◌, ◌++◌}
use Prim.Native.Nat.{ℕ, zero, suc, ◌<◌, ◌≤◌}
use native.Mathlib.Omega.{arith}
use Rattle.modular.specs.Arithmetic.{all_words}
use Rattle.refusals.specs.Table.{Refusal, refusal, not_words, first_refusal, Reply, refused, done, reply, after}

pub all_passed : (result : List ℕ) → reply [] result ≡ done result
unfolding reply
all_passed result = refl

module _ (n : ℕ) (b : Bool) (refusals : List Refusal) (result : List ℕ) where
  pub applied : b ≡ true → reply (refusal n b ∷ refusals) result ≡ refused n
  unfolding reply
  applied e = rw e

  pub passed : b ≡ false → reply (refusal n b ∷ refusals) result ≡ reply refusals result
  unfolding reply
  passed e = rw e

module _ (p : ℕ) (xs : List ℕ) (refusals : List Refusal) (result : List ℕ) where
  pub words_applied : all_words p xs ≡ false → reply (not_words p xs ∷ refusals) result ≡ refused 12
  unfolding not_words
  words_applied e = applied 12 (not (all_words p xs)) refusals result (ap not e)

  pub words_passed : all_words p xs ≡ true → reply (not_words p xs ∷ refusals) result ≡ reply refusals result
  unfolding not_words
  words_passed e = passed 12 (not (all_words p xs)) refusals result (ap not e)

module _ (n : ℕ) (b : Bool) (refusals : List Refusal) where
  pub refusal_applies : b ≡ true → first_refusal (refusal n b ∷ refusals) ≡ n
  unfolding first_refusal
  refusal_applies e = rw e

  pub refusal_passes : b ≡ false → first_refusal (refusal n b ∷ refusals) ≡ first_refusal refusals
  unfolding first_refusal
  refusal_passes e = rw e

-- One list after another: the first refusal of the front is the first of all, and where none of the front applies the rest decides.
pub first_front : (refusals more : List Refusal) → first_refusal refusals ≢ 0 → first_refusal (refusals ++ more) ≡ first_refusal refusals
unfolding first_refusal
first_front [] more o = absurd (o refl)
first_front (r ∷ refusals) more o = at r.applies (first_front refusals more) o
  where
    at : (b : Bool) → (first_refusal refusals ≢ 0 → first_refusal (refusals ++ more) ≡ first_refusal refusals) → cond b r.number (first_refusal refusals) ≢ 0
        → cond b r.number (first_refusal (refusals ++ more)) ≡ cond b r.number (first_refusal refusals)
    at true ih o = refl
    at false ih o = ih o

-- so a number other than 0 that the front gives is that of all
pub front_answers : (refusals more : List Refusal) {n : ℕ} → n ≡ first_refusal refusals → n ≢ 0 → n ≡ first_refusal (refusals ++ more)
front_answers refusals more e o = e ∙ sym (first_front refusals more (λ z. o (e ∙ z)))

-- Every refusal of the list has a number above 0.
pub data Numbered : List Refusal → Type 0 where
  none : Numbered []
  next : {r : Refusal} {refusals : List Refusal} → 0 < r.number → Numbered refusals → Numbered (r ∷ refusals)

pub first_back : (refusals more : List Refusal) → Numbered refusals → first_refusal refusals ≡ 0 → first_refusal (refusals ++ more) ≡ first_refusal more
unfolding first_refusal
first_back [] more N e = refl
first_back (r ∷ refusals) more (next h N) e = at r.applies (first_back refusals more N) e
  where
    at : (b : Bool) → (first_refusal refusals ≡ 0 → first_refusal (refusals ++ more) ≡ first_refusal more) → cond b r.number (first_refusal refusals) ≡ 0 → cond b r.number (first_refusal (refusals ++ more)) ≡ first_refusal more
    at true ih e = absurd (omega arith)
    at false ih e = ih e

-- Where no refusal of a list applies, none of its parts has one that does.
pub first_none : (refusals more : List Refusal) → Numbered refusals → first_refusal (refusals ++ more) ≡ 0 → (first_refusal refusals ≡ 0) × (first_refusal more ≡ 0)
unfolding first_refusal
first_none [] more N e = (refl, e)
first_none (r ∷ refusals) more (next h N) e = at r.applies (first_none refusals more N) e
  where
    at : (b : Bool) → (first_refusal (refusals ++ more) ≡ 0 → (first_refusal refusals ≡ 0) × (first_refusal more ≡ 0)) → cond b r.number (first_refusal (refusals ++ more)) ≡ 0
        → (cond b r.number (first_refusal refusals) ≡ 0) × (first_refusal more ≡ 0)
    at true ih e = absurd (omega arith)
    at false ih e = ih e

pub refusal_none : (n : ℕ) (b : Bool) (refusals : List Refusal) → first_refusal (refusal (suc n) b ∷ refusals) ≡ 0 → (b ≡ false) × (first_refusal refusals ≡ 0)
unfolding first_refusal
refusal_none n true refusals e = absurd (omega arith)
refusal_none n false refusals e = (refl, e)

-- The reply is the first refusal that applies, or the result.
pub reply_refused : (refusals : List Refusal) (result : List ℕ) → first_refusal refusals ≢ 0 → reply refusals result ≡ refused (first_refusal refusals)
unfolding first_refusal reply
reply_refused [] result o = absurd (o refl)
reply_refused (r ∷ refusals) result o = at r.applies (reply_refused refusals result) o
  where
    at : (b : Bool) → (first_refusal refusals ≢ 0 → reply refusals result ≡ refused (first_refusal refusals)) → cond b r.number (first_refusal refusals) ≢ 0
        → cond b (refused r.number) (reply refusals result) ≡ refused (cond b r.number (first_refusal refusals))
    at true ih o = refl
    at false ih o = ih o

pub reply_done : (refusals : List Refusal) (result : List ℕ) → Numbered refusals → first_refusal refusals ≡ 0 → reply refusals result ≡ done result
unfolding first_refusal reply
reply_done [] result N e = refl
reply_done (r ∷ refusals) result (next h N) e = at r.applies (reply_done refusals result N) e
  where
    at : (b : Bool) → (first_refusal refusals ≡ 0 → reply refusals result ≡ done result) → cond b r.number (first_refusal refusals) ≡ 0
        → cond b (refused r.number) (reply refusals result) ≡ done result
    at true ih e = absurd (omega arith)
    at false ih e = ih e

abbrev is_done : Reply → Type 0
is_done (refused n) = ⊥
is_done (done result) = Unit {0}

abbrev result_of : Reply → List ℕ
result_of (refused n) = []
result_of (done result) = result

-- a reply that is a result: nothing was refused
pub reply_none : (refusals : List Refusal) (result xs : List ℕ) → reply refusals result ≡ done xs → first_refusal refusals ≡ 0
reply_none refusals result xs e = go (first_refusal refusals) refl
  where
    go : (n : ℕ) → first_refusal refusals ≡ n → first_refusal refusals ≡ 0
    go zero f = f
    go (suc n) f = absurd (subst is_done (sym e ∙ reply_refused refusals result (λ z. absurd (omega arith))) tt)

pub reply_result : (refusals : List Refusal) (result xs : List ℕ) → Numbered refusals → reply refusals result ≡ done xs → result ≡ xs
reply_result refusals result xs N e = ap result_of (sym (reply_done refusals result N (reply_none refusals result xs e)) ∙ e)

-- Every refusal of the list has a number up to n, and so has the first that applies.
pub data UpTo (n : ℕ) : List Refusal → Type 0 where
  up_none : UpTo n []
  up_next : {r : Refusal} {refusals : List Refusal} → r.number ≤ n → UpTo n refusals → UpTo n (r ∷ refusals)

pub first_up_to : {n : ℕ} {refusals : List Refusal} → UpTo n refusals → first_refusal refusals ≤ n
unfolding first_refusal
first_up_to up_none = omega arith
first_up_to {n} (up_next {r} {refusals} h U) = at r.applies (first_up_to U)
  where
    at : (b : Bool) → first_refusal refusals ≤ n → cond b r.number (first_refusal refusals) ≤ n
    at true rest = h
    at false rest = rest

pub numbered_append : {refusals more : List Refusal} → Numbered refusals → Numbered more → Numbered (refusals ++ more)
numbered_append none M = M
numbered_append (next h N) M = next h (numbered_append N M)

-- What a buffer holds.
pub kept_after : {r : Reply} {n : ℕ} (old new : List ℕ) → r ≡ refused n → old ≡ after r old new
unfolding after
kept_after {r} {n} old new e = rw e

pub written_after : {r : Reply} {result : List ℕ} (old new : List ℕ) → r ≡ done result → new ≡ after r old new
unfolding after
written_after {r} {result} old new e = rw e

-- An entry's two equations, for its reply and its buffer: where it gives the first refusal's number, and where it does the work.
pub refused_equations : (refusals : List Refusal) (result old new : List ℕ) (n : ℕ) → n ≡ first_refusal refusals → n ≢ 0
    → (refused n ≡ reply refusals result) × (old ≡ after (reply refusals result) old new)
refused_equations refusals result old new n e o =
    let r : reply refusals result ≡ refused (first_refusal refusals) = reply_refused refusals result (λ z. o (e ∙ z)) in
    (ap refused e ∙ sym r, kept_after old new r)

pub done_equations : (refusals : List Refusal) (result old new : List ℕ) → Numbered refusals → first_refusal refusals ≡ 0
    → (done result ≡ reply refusals result) × (new ≡ after (reply refusals result) old new)
done_equations refusals result old new N z =
    let r : reply refusals result ≡ done result = reply_done refusals result N z in
    (sym r, written_after old new r)

-- the same with what the buffer holds, which is what they say of it
pub left_as : {A : Type 0} {xs ys zs : List ℕ} → A × (ys ≡ zs) → xs ≡ ys → A × (xs ≡ zs)
left_as e f = (e.0, f ∙ e.1)
