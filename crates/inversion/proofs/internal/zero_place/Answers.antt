use Rattle.std.proofs.Common.{◌≡◌, ℕ, ◌≤◌, Some, None, cond, eqb, ltb, length, take, refl, sym, ap, ◌∙◌, arith, rules, length-take-le}
use Rattle.std.specs.Option.{unwrap_or}
use Rattle.std.proofs.lemmas.Iterator.{YieldsList-from_slice}
use Rattle.std.proofs.lemmas.Iterator.Search.{position_from_yields_List}
use Rattle.std.proofs.lemmas.List.Recursion.{is_position_or_len}
use Rattle.std.proofs.lemmas.Bool.Decides.{nat_tests}
use Rattle.poseidon2.specs.Inverse.{zero_place}
use Rattle.poseidon2.proofs.Zeros.{place_beyond, place_none}
use Rattle.inversion.proofs.internal.zero_place.Goals as goal

-- a place among n, or n
place_or_count : (k n : ℕ) → (n ≤ k → k ≡ n) → unwrap_or (cond (ltb k n) (Some k) None) n ≡ k
place_or_count k n h = grind (arith, nat_tests)

pub returns : goal.returns
unfolding zero_place
returns c =
    let count = c.args.count in
    let xs = take count c.args.numbers.now in
    let first = position_from_yields_List (λ x. eqb x 0) _ _ c.position.result c.position.ensures.ran (YieldsList-from_slice xs cc) (λ x b q k. search (rules, nat_tests)) in
    let place = is_position_or_len zero_place (λ x. eqb x 0) refl (λ x xs. refl) xs in
    let all : length xs ≡ count = length-take-le count c.args.numbers.now c.requires in
    c.unwrap_or.ensures
    ∙ ap (λ o. unwrap_or o count) (first ∙ ap (λ (k : ℕ). cond (ltb k (length xs)) (Some k) None) (sym place))
    ∙ ap (λ (n : ℕ). unwrap_or (cond (ltb (zero_place xs) (length xs)) (Some (zero_place xs)) None) n) (sym all)
    ∙ place_or_count (zero_place xs) (length xs) (λ h. place_none xs (place_beyond xs h))
