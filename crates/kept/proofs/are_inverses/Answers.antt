use Rattle.std.proofs.Common.{◌≡◌, ℕ, ◌<◌, eqb, Bool, ◌&&◌, List, [], ◌∷◌, length, get_or, refl, sym, ap, subst, ◌∙◌, arith, rules, tests}
use Rattle.std.specs.List.{zip, list_all}
use Rattle.std.proofs.lemmas.List.{get_or_default}
use Rattle.std.proofs.lemmas.Slice.Zip.{length-zip, get_or-zip}
use Rattle.poseidon2.specs.Inverse.{inverses}
use Rattle.poseidon2.specs.Statements.{Words}
use Rattle.merkle.specs.Lists.{same}
use Rattle.std.proofs.lemmas.Iterator.{YieldsList-from_slice, YieldsList-from_zip}
use Rattle.std.proofs.lemmas.Iterator.Consumers.{YieldsList-at}
use Rattle.std.proofs.lemmas.Iterator.Adapters.{serves_from_places}
use Rattle.std.proofs.lemmas.Iterator.Search.{all_from_yields_List}
use Rattle.modular.specs.Arithmetic.{inverse}
use Rattle.fields.specs.Prime.{prime}
use Rattle.kept.proofs.are_inverses.Goals as goal

-- the word of a pair is one of D
word_at : (D es : List ℕ) (k d e : ℕ) → Words prime D → k < length (zip D es) → (d, e) ≡ get_or (zip D es) k (d, e) → d < prime
word_at D es k d e W h pair =
    let l = length-zip D es in
    let at = pair ∙ get_or-zip D es k (d, e) (omega arith) (omega arith) in
    subst (λ n. n < prime) (sym (ap (λ (p : ℕ × ℕ). p.0) at ∙ get_or_default D k d 0 (omega arith))) (W.at k)

-- each pair is a word and its inverse where the list is that of all inverses
zipped : (D es : List ℕ) → length es ≡ length D → list_all (λ (p : ℕ × ℕ). eqb p.1 (inverse prime p.0)) (zip D es) ≡ same es (inverses prime D)
unfolding same inverses
zipped [] [] l = refl
zipped [] (e ∷ es) l = absurd (omega arith)
zipped (d ∷ D) [] l = absurd (omega arith)
zipped (d ∷ D) (e ∷ es) l = ap (λ (b : Bool). eqb e (inverse prime d) && b) (zipped D es (omega arith))

pub all-requires-clause-callable : goal.all-requires-clause-callable
all-requires-clause-callable c =
    serves_from_places (YieldsList-from_zip (YieldsList-at c.zip.ensures.first (YieldsList-from_slice c.args.diagonal.now c.iter.ensures.rest)) (YieldsList-from_slice c.args.list.now cc)) (λ x q k. search rules) (λ x k h e. let word : x.0.now < prime = word_at c.args.diagonal.now c.args.list.now k x.0.now x.1.now c.requires.0 h e in search rules)

pub returns : goal.returns
returns c =
    all_from_yields_List (λ p. eqb p.1 (inverse prime p.0)) c.all.new.self _ _ c.all.ensures.ran (YieldsList-from_zip {s = c.zip.result} (YieldsList-at c.zip.ensures.first (YieldsList-from_slice c.args.diagonal.now c.iter.ensures.rest)) (YieldsList-from_slice c.args.list.now cc)) (λ x b q k. search (rules, tests)) ∙ zipped c.args.diagonal.now c.args.list.now c.requires.1
