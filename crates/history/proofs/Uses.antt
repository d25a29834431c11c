-- The consequences, from demand 3 alone: nothing here looks into a call.
use mathlib.Core.Path.{◌≡◌, refl, sym, ap, ap₂, ◌∙◌}
use mathlib.Core.Bool.{true, not}
use mathlib.Core.List.{List, [], ◌∷◌, ◌++◌}
use Prim.Native.Nat.{ℕ, ◌^◌, ◌≤◌}
use native.Mathlib.Omega.{arith}
use lib.Dec.{ltb}
use lib.ListN.{length, replicate, length-replicate}
use borrow.Author.Tests.{eq-eqb, le-leb, lt-ltb}
use Rattle.modular.specs.Arithmetic.{all_words}
use Rattle.refusals.specs.Table.{refusal, first_refusal, Reply, refused, done}
use Rattle.refusals.proofs.Table.{none, refusal_applies, refusal_passes, first_back, reply_refused, reply_done, kept_after, reply_none}
use Rattle.refusals.proofs.LengthsPlacesAndWords as three
use Rattle.parameters.specs.ParameterSet.{prime_of}
use Rattle.parameters.specs.declared.ParameterSet.{ParameterSet}
use Rattle.repeats.specs.Repeats.{repeats}
use Rattle.trees.specs.SetTrees.{leaf_count, store_words, opening_words}
use Rattle.tree_entries.specs.Trees.{has, built, opened, verify_reply}
use Rattle.trees.proofs.SetTrees.{laws}
use Rattle.records.specs.declared.record.Record.{Record}
use Rattle.records.specs.Records.{places_of, places_below, used_words, SixWords}
use Rattle.push_entries.specs.Pushes.{few_records}
use Rattle.push_entries.proofs.Statements.{few_nodes}
use Rattle.extraction_entries.specs.Extraction.{Pair, extract_refusals, collision, level_of, extract_reply, extracted_first, extracted_second}
use Rattle.extraction_entries.specs.Statements.{IsRow}
use Rattle.extraction_entries.proofs.Statements.{written}
use Rattle.history.specs.LeafBook.{Call, replacement, push, leaf_at, book_refusals, book_count, book_reply, entered, book_after, book_leaves, book_answers}
use Rattle.history.specs.History.{run}
use Rattle.history.specs.Demand3.{Typed, root_of}
use Rattle.history.specs.Uses.{RootOfBook, Counts, RepeatStops, OwnAccepted, OtherCollides, OnlyAccepted, Uses}
use Rattle.history.proofs.Sets.{begun}
use Rattle.history.proofs.Replies.{no_row}
use Rattle.history.proofs.Book.{book_numbered}
use Rattle.history.proofs.Demand3.{demand3}

-- buffers to hand over
abbrev zeros : ℕ → List ℕ
zeros n = replicate n 0

zeros_long : (n : ℕ) → length (zeros n) ≡ n
zeros_long n = length-replicate n 0

root_of_book : RootOfBook
root_of_book s leaves blank e calls T =
    let written = (demand3 s leaves blank e calls T).stored (zeros (store_words s)) (zeros_long (store_words s)) in
    let B = begun s (book_leaves s calls leaves) (zeros (store_words s)) written.0 in
    ap (root_of s) (written.1 ∙ B.written) ∙ sym ((laws s B.set).storeless.agrees s.height (book_leaves s calls leaves) B.given.long)

-- what the book answers where it refuses nothing
counted : (s : ParameterSet) (c : Call) → first_refusal (book_refusals s c) ≡ 0 → book_reply s c ≡ done (book_count s c ∷ [])
unfolding book_reply
counted s c z = reply_done (book_refusals s c) (book_count s c ∷ []) (book_numbered s c) z

-- a push with nothing against it up to 12
nothing_early : (s : ParameterSet) (rs : List Record) → length rs ≤ 2 ^ 32 → places_below (leaf_count s) rs ≡ true → all_words (prime_of s) (used_words s.node_size rs) ≡ true
    → first_refusal (three.all (prime_of s) [] none (not (few_records rs)) (not (places_below (leaf_count s) rs)) (used_words s.node_size rs)) ≡ 0
nothing_early s rs few places used =
    three.at_words (prime_of s) [] none (not (few_records rs)) (not (places_below (leaf_count s) rs)) (used_words s.node_size rs) no_row (ap not (le-leb (length rs) (2 ^ 32) few)) (ap not places)
    ∙ three.no_twelve (prime_of s) (used_words s.node_size rs) used

counts : Counts
unfolding book_answers book_refusals book_count
counts s leaves blank e rs sixes few places used once q leaf long inside wordy =
    let a : first_refusal (book_refusals s (push rs)) ≡ 0 =
    first_back (three.all (prime_of s) [] none (not (few_records rs)) (not (places_below (leaf_count s) rs)) (used_words s.node_size rs)) (refusal 17 (repeats (places_of rs)) ∷ [])
    (three.all_numbered (prime_of s) [] none _ _ _) (nothing_early s rs few places used)
    ∙ refusal_passes 17 (repeats (places_of rs)) [] once ∙ no_row in
    let b : first_refusal (book_refusals s (replacement q leaf)) ≡ 0 =
    three.at_words (prime_of s) [] none (not (has leaf s.node_size)) (not (ltb q (leaf_count s))) leaf no_row (ap not (eq-eqb (length leaf) s.node_size long)) (ap not (lt-ltb q (leaf_count s) inside))
    ∙ three.no_twelve (prime_of s) leaf wordy in (
      (demand3 s leaves blank e (push rs ∷ replacement q leaf ∷ []) (sixes, tt)).answered
          ∙ ap₂ (λ (x y : Reply). x ∷ y ∷ []) (counted s (push rs) a) (counted s (replacement q leaf) b),
      few_nodes s (begun s leaves blank e).set rs,
    )

-- ---- a place twice in a push

typed_with : (rs : List Record) → SixWords rs → (before after : List Call) → Typed (before ++ after) → Typed (before ++ (push rs ∷ after))
typed_with rs S [] after T = (S, T)
typed_with rs S (replacement q leaf ∷ before) after T = typed_with rs S before after T
typed_with rs S (push qs ∷ before) after T = (T.0, typed_with rs S before after T.1)

answers_append : (s : ParameterSet) (before after : List Call) → book_answers s (before ++ after) ≡ book_answers s before ++ book_answers s after
unfolding book_answers
answers_append s [] after = refl
answers_append s (c ∷ before) after = ap (λ (rest : List Reply). book_reply s c ∷ rest) (answers_append s before after)

-- a call that changes no leaf, wherever it stands
leaves_without : (s : ParameterSet) (c : Call) → ((book : List ℕ) → book_after s c book ≡ book) → (before after : List Call) (book : List ℕ)
    → book_leaves s (before ++ (c ∷ after)) book ≡ book_leaves s (before ++ after) book
unfolding book_leaves
leaves_without s c stays [] after book = ap (book_leaves s after) (stays book)
leaves_without s c stays (b ∷ before) after book = leaves_without s c stays before after (book_after s b book)

repeat_stops : RepeatStops
unfolding book_refusals book_reply book_answers book_after
repeat_stops s leaves blank e before after T rs sixes few places used twice =
    let rows = three.all (prime_of s) [] none (not (few_records rs)) (not (places_below (leaf_count s) rs)) (used_words s.node_size rs) in
    let late : first_refusal (book_refusals s (push rs)) ≡ 17 =
    first_back rows (refusal 17 (repeats (places_of rs)) ∷ []) (three.all_numbered (prime_of s) [] none _ _ _) (nothing_early s rs few places used)
    ∙ refusal_applies 17 (repeats (places_of rs)) [] twice in
    let answer : book_reply s (push rs) ≡ refused 17 =
    reply_refused (book_refusals s (push rs)) (book_count s (push rs) ∷ []) (λ z. absurd (omega (arith, late, z))) ∙ ap refused late in
    let stays : (book : List ℕ) → book_after s (push rs) book ≡ book = λ book. sym (kept_after book (entered s (push rs) book) answer) in
    let with = demand3 s leaves blank e (before ++ (push rs ∷ after)) (typed_with rs sixes before after T) in
    let without = demand3 s leaves blank e (before ++ after) T in
    let room = zeros (store_words s) in
    let fits = zeros_long (store_words s) in (
      (with.stored room fits).1 ∙ ap (λ (book : List ℕ). built s book room) (leaves_without s (push rs) stays before after leaves) ∙ sym (without.stored room fits).1,
      with.answered ∙ answers_append s before (push rs ∷ after) ∙ ap (λ (r : Reply). book_answers s before ++ (r ∷ book_answers s after)) answer,
    )

own_accepted : OwnAccepted
own_accepted s leaves blank e calls T q inside buffer long =
    ap (λ (top : List ℕ). verify_reply s top q (leaf_at s q (book_leaves s calls leaves)) (opened s (run s calls (built s leaves blank)).store q buffer)) (sym (root_of_book s leaves blank e calls T))
    ∙ ((demand3 s leaves blank e calls T).own q inside buffer long).1

-- what extraction writes where it answers a level
rows_of : (s : ParameterSet) (two : Pair) (first second : List ℕ) {result : List ℕ} → extract_reply s two first second ≡ done result
    → IsRow s (extracted_first s two first second) × IsRow s (extracted_second s two first second)
unfolding extract_reply
rows_of s two first second e =
    (written s two first second (reply_none (extract_refusals s two first second) (level_of (collision s two) ∷ []) _ e)).rows

other_collides : OtherCollides
other_collides s leaves blank e calls T q inside leaf siblings n v =
    let C = ((demand3 s leaves blank e calls T).other q inside (zeros (opening_words s)) (zeros_long (opening_words s)) leaf siblings n
    (zeros s.width) (zeros s.width) (zeros_long s.width) (zeros_long s.width)).0 v in
    record { first = _; second = _; rows = rows_of _ _ _ _ C.answered; differ = C.differ; alike = C.alike }

only_accepted : OnlyAccepted
only_accepted s leaves blank e calls T q inside leaf siblings n unaccepted buffer first second lb lf ls C =
    unaccepted (((demand3 s leaves blank e calls T).other q inside buffer lb leaf siblings n first second lf ls).1 C)

pub uses : Uses
uses =
    record {
      root = root_of_book;
      counts = counts;
      stops = repeat_stops;
      own = own_accepted;
      other = other_collides;
      only = only_accepted;
    }
