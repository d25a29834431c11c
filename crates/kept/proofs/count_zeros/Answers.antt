use Rattle.std.proofs.Common.{◌≡◌, ℕ, eqb, List, refl, sym, ◌∙◌, rules, tests}
use Rattle.std.specs.List.{count_by}
use Rattle.std.proofs.lemmas.Iterator.{YieldsList-from_slice}
use Rattle.std.proofs.lemmas.Iterator.Consumers.{YieldsList-at, YieldsList-from_filter, count_from_yields_List}
use Rattle.std.proofs.lemmas.List.Sums.{length-filter}
use Rattle.std.proofs.lemmas.List.Recursion.{is_count_by}
use Rattle.poseidon2.specs.Inverse.{zeros}
use Rattle.kept.proofs.count_zeros.Goals as goal

zeros_counted : (xs : List ℕ) → zeros xs ≡ count_by (λ d. eqb d 0) xs
unfolding zeros
zeros_counted xs = is_count_by zeros (λ d. eqb d 0) refl (λ _ _. refl) xs

pub returns : goal.returns
returns c =
    let xs = c.args.words.now in
    count_from_yields_List c.filter.result c.count.result c.count.ensures.ran (YieldsList-from_filter _ (λ d. eqb d 0) (YieldsList-at c.filter.ensures.source (YieldsList-from_slice xs cc)) c.filter.ensures.closure (λ x r q k. search (rules, tests)))
    ∙ length-filter (λ d. eqb d 0) xs ∙ sym (zeros_counted xs)
