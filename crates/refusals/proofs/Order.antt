-- The order of refusals: what of the reply hangs on those in front, and when two neighbours may be exchanged.
use mathlib.Core.Path.{◌≡◌, sym, ap, ◌∙◌}
use mathlib.Core.Logic.{◌≢◌}
use mathlib.Core.Bool.{Bool, false, cond}
use mathlib.Core.List.{List, [], ◌∷◌, ◌++◌}
use Prim.Native.Nat.{ℕ}
use Rattle.refusals.specs.Table.{Refusal, refusal, first_refusal, refused, reply}
use Rattle.refusals.proofs.Table.{Numbered, passed, first_front, first_back, reply_refused}

module _ (result : List ℕ) where
  -- a refusal of the front is the reply, whatever comes behind it
  pub front_refuses : (front more : List Refusal) → first_refusal front ≢ 0 → reply (front ++ more) result ≡ refused (first_refusal front)
  front_refuses front more o =
      let e = first_front front more o in
      reply_refused (front ++ more) result (λ z. o (sym e ∙ z)) ∙ ap refused e

  -- where none of the front applies, the first one behind it is
  pub behind_refuses : (front more : List Refusal) → Numbered front → first_refusal front ≡ 0 → (n : ℕ) → first_refusal more ≡ n → n ≢ 0 → reply (front ++ more) result ≡ refused n
  behind_refuses front more N z n e o =
      let f : first_refusal (front ++ more) ≡ n = first_back front more N z ∙ e in
      reply_refused (front ++ more) result (λ y. o (sym f ∙ y)) ∙ ap refused f

  -- lists that reply alike do so behind any front
  pub alike_behind : (front more others : List Refusal) → reply more result ≡ reply others result → reply (front ++ more) result ≡ reply (front ++ others) result
  unfolding reply
  alike_behind [] more others e = e
  alike_behind (r ∷ front) more others e = ap (cond r.applies (refused r.number)) (alike_behind front more others e)

  -- two neighbours of which one does not apply
  pub exchanged : (front : List Refusal) (m n : ℕ) (b c : Bool) → b ≡ false → reply (front ++ (refusal m b ∷ refusal n c ∷ [])) result ≡ reply (front ++ (refusal n c ∷ refusal m b ∷ [])) result
  exchanged front m n b c e =
      alike_behind front _ _ (passed m b (refusal n c ∷ []) result e ∙ sym (alike_behind (refusal n c ∷ []) (refusal m b ∷ []) [] (passed m b [] result e)))
