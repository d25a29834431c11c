-- What a reading gives where it is refused and where it is not.
use Rattle.std.proofs.Common.{◌≡◌, ◌≢◌, ℕ, List, []}
use Rattle.std.specs.Borrow.{Bor}
use Rattle.std.specs.Result.{IsErrAnd}
use Rattle.std.proofs.lemmas.Result.{err_from_is_err_and}
use Rattle.refusals.specs.Table.{first_refusal, refused, done}
use Rattle.refusals.specs.Answers.{number_of, Answer}
use Rattle.refusals.specs.declared.Refusal.{Refusal}
use Rattle.refusals.proofs.Table.{Numbered, front_answers, refused_equations, done_equations}
use Rattle.refusals.proofs.Answers.{nonzero}
use Rattle.refusals.proofs.LengthsPlacesAndWords as three
use Rattle.parameters.specs.declared.ParameterSet.{ParameterSet}
use Rattle.parameters.specs.ParameterSet.{prime_of, set_refusals}
use Rattle.parameters.proofs.Accepted.{set-numbered}
use Rattle.merkle.specs.Openings.{siblings_at}
use Rattle.trees.specs.SetTrees.{tree_of_set}
use Rattle.reader_entries.specs.Readers.{read_refusals, read_reply, read_words, part_reply, words_given}

module _ (s : ParameterSet) (siblings : List ℕ) (j : ℕ) where
  pub read_numbered : Numbered (read_refusals s siblings j)
  unfolding read_refusals
  read_numbered = three.all_numbered (prime_of s) _ (set-numbered s) _ _ _

  -- the reply and the words, where there is a refusal and where there is none
  pub read_refused : (n : ℕ) → n ≡ first_refusal (read_refusals s siblings j) → n ≢ 0 → (refused n ≡ read_reply s siblings j) × ([] ≡ read_words s siblings j)
  unfolding read_reply read_words
  read_refused n e o = refused_equations (read_refusals s siblings j) (siblings_at (tree_of_set s) siblings j) [] (siblings_at (tree_of_set s) siblings j) n e o

  pub read_done : (words : List ℕ) → words ≡ siblings_at (tree_of_set s) siblings j → first_refusal (read_refusals s siblings j) ≡ 0
      → (done words ≡ read_reply s siblings j) × (words ≡ read_words s siblings j)
  unfolding read_reply read_words
  read_done words e z = rw e (done_equations (read_refusals s siblings j) (siblings_at (tree_of_set s) siblings j) [] (siblings_at (tree_of_set s) siblings j) read_numbered z)

  -- where a set's refusal is handed on, it is the answer
  pub read_returned : (answer : Answer (Bor (List ℕ))) (r : Refusal) → IsErrAnd answer (λ e. e ≡ r) → number_of r ≡ first_refusal (set_refusals s)
      → (part_reply answer ≡ read_reply s siblings j) × (words_given answer ≡ read_words s siblings j)
  unfolding read_refusals
  read_returned answer r e f =
      let p = err_from_is_err_and answer e in
      rw (p.1, p.2) (read_refused (number_of r) (front_answers (set_refusals s) _ f (nonzero r)) (nonzero r))
