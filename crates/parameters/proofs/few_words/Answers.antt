use Rattle.std.proofs.Common.{◌≡◌, ℕ, ltb, ◌&&◌, List, refl, ap, ◌∙◌, rules, tests}
use Rattle.std.specs.List.{list_all}
use Rattle.std.proofs.lemmas.Iterator.{YieldsList-from_slice}
use Rattle.std.proofs.lemmas.Iterator.Search.{all_from_yields_List}
use Rattle.std.proofs.lemmas.List.Recursion.{same_from_clauses}
use Rattle.modular.specs.Arithmetic.{is_word, all_words}
use Rattle.parameters.proofs.few_words.Goals as goal

all_below : (p : ℕ) (xs : List ℕ) → list_all (λ n. ltb n p) xs ≡ all_words p xs
unfolding is_word all_words
all_below p xs = same_from_clauses (list_all (λ n. ltb n p)) (all_words p) (λ n b. ltb n p && b) refl (λ _ _. refl) (λ _ _. refl) xs

pub returns : goal.returns
returns c =
    let xs = c.args.numbers.now in
    all_from_yields_List (λ n. ltb n c.order-order.result) c.all.new.self _ _ c.all.ensures.ran (YieldsList-from_slice xs c.iter.ensures.rest) (λ x b q k. search (rules, tests))
    ∙ all_below c.order-order.result xs ∙ ap (λ p. all_words p xs) c.order-order.ensures
