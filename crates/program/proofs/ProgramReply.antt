-- The program's reply, by what validation and the storeless root answer.
use mathlib.Core.Path.{◌≡◌, refl, sym, ap, ◌∙◌}
use mathlib.Core.Logic.{◌≢◌}
use mathlib.Core.Bool.{Bool, true, false, not, ◌&&◌, cond}
use mathlib.Core.List.{List, [], ◌∷◌, ◌++◌}
use Prim.Native.Nat.{ℕ, ◌/◌, ◌%◌, ◌≤◌, ◌<◌}
use native.Mathlib.Omega.{arith}
use native.Mathlib.Nat.{mul-le-mul_right, div-mul-le_self}
use lib.Dec.{lit<}
use lib.ListN.{length}
use borrow.Author.Tests.{lt-ltb, le-ltb, eq-eqb, ne_eqb}
use Rattle.refusals.specs.Table.{Refusal, refusal, not_words, first_refusal, refused, done, reply, after}
use Rattle.refusals.proofs.Table.{Numbered, next, numbered_append, first_front, reply_refused, written_after, applied, passed}
use Rattle.parameters.specs.declared.ParameterSet.{ParameterSet}
use Rattle.fields.specs.Prime.{prime}
use Rattle.refusals.specs.Answers.{number_of}
use Rattle.refusals.specs.declared.Refusal.{Refusal as Answered}
use Rattle.refusals.proofs.Answers.{nonzero}
use Rattle.parameters.specs.ParameterSet.{Validation, turned_down, prime_of, held, validation, set_refusals}
use Rattle.parameters.proofs.Validated.{is_held, held_taken, shape}
use Rattle.parameters.specs.Refusals.{validation_refusals}
use Rattle.parameters.proofs.Accepted.{numbers_numbered, lists_numbered, set-numbered, width_fits}
use Rattle.merkle.specs.Storeless.{storeless_root}
use Rattle.trees.specs.SetTrees.{tree_of_set, leaf_words}
use Rattle.tree_entries.specs.Trees.{has, storeless_refusals, storeless_reply, storeless_rooted}
use Rattle.octets.specs.Numbers.{numbers_of, digits, decimal}
use Rattle.program.specs.Program.{read_width, read_node_size, read_height, read_full_rounds, read_partial_rounds, read_diagonal, read_constants, read_leaves, read_set, read_validation, read_refusals, read_root, bad_byte_count, program_reply, lines, refused_line, reply_text, root_text, EmptyInput}

-- Refusals that do not apply leave the reply to those after them.
reply_back : (refusals more : List Refusal) (result : List ℕ) → Numbered refusals → first_refusal refusals ≡ 0 → reply (refusals ++ more) result ≡ reply more result
unfolding first_refusal reply
reply_back [] more result N e = refl
reply_back (r ∷ refusals) more result (next h N) e = at r.applies (reply_back refusals more result N) e
  where
    at : (b : Bool) → (first_refusal refusals ≡ 0 → reply (refusals ++ more) result ≡ reply more result) → cond b r.number (first_refusal refusals) ≡ 0
        → cond b (refused r.number) (reply (refusals ++ more) result) ≡ reply more result
    at true ih e = absurd (omega arith)
    at false ih e = ih e

-- A reply of other results: the same refusal, or the result.
refused_too : (refusals : List Refusal) (result other : List ℕ) (n : ℕ) → refused n ≡ reply refusals result → reply refusals other ≡ refused n
unfolding reply
refused_too [] result other n e = absurd (let z : ◌≡◌ {A = ℕ} 0 1 = cc in omega arith)
refused_too (r ∷ refusals) result other n e = at r.applies (refused_too refusals result other n) e
  where
    at : (b : Bool) → (refused n ≡ reply refusals result → reply refusals other ≡ refused n) → refused n ≡ cond b (refused r.number) (reply refusals result)
        → cond b (refused r.number) (reply refusals other) ≡ refused n
    at true ih e = sym e
    at false ih e = ih e

done_too : (refusals : List Refusal) (result other : List ℕ) → done result ≡ reply refusals result → reply refusals other ≡ done other
unfolding reply
done_too [] result other e = refl
done_too (r ∷ refusals) result other e = at r.applies (done_too refusals result other) e
  where
    at : (b : Bool) → (done result ≡ reply refusals result → reply refusals other ≡ done other) → done result ≡ cond b (refused r.number) (reply refusals result)
        → cond b (refused r.number) (reply refusals other) ≡ done other
    at true ih e = absurd (let z : ◌≡◌ {A = ℕ} 0 1 = cc in omega arith)
    at false ih e = ih e

and_true : (a b : Bool) → b ≡ true → (a && b) ≡ a
and_true true b e = e
and_true false b e = refl

-- What validation says of its refusals.
module _ (t l h rf rp : ℕ) (D C : List ℕ) where
  abbrev refusals : List Refusal
  refusals = validation_refusals prime t l h rf rp D C

  all_numbered : Numbered refusals
  unfolding validation_refusals
  all_numbered = numbered_append (numbers_numbered t l h rf rp) (next (lit< tt) (lists_numbered prime D C))

  number_is : (validation prime t l h rf rp D C).number ≡ first_refusal refusals
  unfolding validation
  number_is = refl

  module _ (none-applies : first_refusal refusals ≡ 0) where
    set_is : (validation prime t l h rf rp D C).parameters ≡ held prime t l h rf rp D C
    set_is = is_held prime t l h rf rp D C (number_is ∙ none-applies)

    -- the set that is held is not refused itself
    passes_again : first_refusal (set_refusals (held prime t l h rf rp D C)) ≡ 0
    passes_again = held_taken t l h rf rp D C (number_is ∙ none-applies)

    node_few : l ≤ 6
    node_few =
        let N = (shape prime t l h rf rp D C (number_is ∙ none-applies)).numbers in
        omega (arith, mul-le-mul_right l N.node_size.several, div-mul-le_self t l, width_fits t N.width)

module _ (ns : List ℕ) (v : Validation) (e : v ≡ read_validation ns) where
  abbrev valid_refusals : List Refusal
  valid_refusals = refusals (read_width ns) (read_node_size ns) (read_height ns) (read_full_rounds ns) (read_partial_rounds ns) (read_diagonal ns) (read_constants ns)

  abbrev leaf_refusals : List Refusal
  leaf_refusals = refusal 10 (not (has (read_leaves ns) (leaf_words (read_set ns)))) ∷ not_words (prime_of (read_set ns)) (read_leaves ns) ∷ []

  first_is : v.number ≡ first_refusal valid_refusals
  unfolding read_validation
  first_is = ap (λ (w : Validation). w.number) e ∙ number_is _ _ _ _ _ _ _

  -- A set that is refused.
  pub is_refused : v.number ≢ 0 → reply (read_refusals ns) (read_root ns) ≡ refused v.number
  unfolding read_refusals
  is_refused o =
      let front : first_refusal (valid_refusals ++ leaf_refusals) ≡ first_refusal valid_refusals = first_front valid_refusals leaf_refusals (λ z. o (first_is ∙ z)) in
      reply_refused (valid_refusals ++ leaf_refusals) (read_root ns) (λ z. o (first_is ∙ sym front ∙ z)) ∙ ap refused (front ∙ sym first_is)

  module _ (z : v.number ≡ 0) where
    none_of : first_refusal valid_refusals ≡ 0
    none_of = sym first_is ∙ z

    set-of : v.parameters ≡ read_set ns
    unfolding read_validation
    set-of = ap (λ (w : Validation). w.parameters) e ∙ set_is _ _ _ _ _ _ _ none_of

    pub node_size_few : v.parameters.node_size ≤ 6
    unfolding held
    node_size_few = rw set-of (node_few _ _ _ _ _ _ _ none_of)

    module _ (node : List ℕ) (long : length node ≡ v.parameters.node_size) where
      -- the storeless root's reply is that of the leaves' refusals
      by_leaves : storeless_reply v.parameters (read_leaves ns) node ≡ reply leaf_refusals []
      unfolding storeless_reply storeless_refusals
      by_leaves = rw (and_true (has (read_leaves ns) (leaf_words v.parameters)) (has node v.parameters.node_size) (eq-eqb _ _ long), set-of)
          (reply_back (set_refusals (read_set ns)) leaf_refusals [] (set-numbered (read_set ns)) (passes_again _ _ _ _ _ _ _ none_of))

      by_refusals : reply (read_refusals ns) (read_root ns) ≡ reply leaf_refusals (read_root ns)
      unfolding read_refusals
      by_refusals = reply_back valid_refusals leaf_refusals (read_root ns) (all_numbered _ _ _ _ _ _ _) none_of

      -- The leaves are refused, or there is a root.
      pub root_refused : (n : ℕ) → refused n ≡ storeless_reply v.parameters (read_leaves ns) node → reply (read_refusals ns) (read_root ns) ≡ refused n
      root_refused n r = by_refusals ∙ refused_too leaf_refusals [] (read_root ns) n (r ∙ by_leaves)

      pub root_done : done [] ≡ storeless_reply v.parameters (read_leaves ns) node
          → reply (read_refusals ns) (read_root ns) ≡ done (storeless_rooted v.parameters (read_leaves ns) node)
      unfolding storeless_rooted read_root held
      root_done r =
          by_refusals ∙ done_too leaf_refusals [] (read_root ns) (r ∙ by_leaves)
          ∙ ap done (written_after node (read_root ns) (sym r) ∙ ap (λ (s : ParameterSet). after (storeless_reply v.parameters (read_leaves ns) node) node (storeless_root (tree_of_set s) s.height (read_leaves ns))) (sym set-of))

      -- The program's text, by what the storeless root answers.
      pub refused_text : (leaves : List ℕ) (n : ℕ) → leaves ≡ read_leaves ns → refused n ≡ storeless_reply v.parameters leaves node
          → refused_line n ≡ reply_text (reply (read_refusals ns) (read_root ns))
      unfolding reply_text
      refused_text leaves n same r =
          sym (ap reply_text (root_refused n (r ∙ ap (λ (xs : List ℕ). storeless_reply v.parameters xs node) same)))

      pub done_text : (leaves written : List ℕ) → leaves ≡ read_leaves ns → done [] ≡ storeless_reply v.parameters leaves node
          → written ≡ storeless_rooted v.parameters leaves node → lines written ≡ reply_text (reply (read_refusals ns) (read_root ns))
      unfolding reply_text
      done_text leaves written same r w =
          ap lines (w ∙ ap (λ (xs : List ℕ). storeless_rooted v.parameters xs node) same)
          ∙ sym (ap reply_text (root_done (r ∙ ap (λ (xs : List ℕ). storeless_reply v.parameters xs node) same)))

-- A set that is turned down.
pub turned_text : (ns : List ℕ) (r : Answered) → turned_down (number_of r) ≡ read_validation ns → refused_line (number_of r) ≡ reply_text (reply (read_refusals ns) (read_root ns))
unfolding turned_down reply_text
turned_text ns r e = sym (ap reply_text (is_refused ns (turned_down (number_of r)) e (nonzero r)))

-- The byte count, which is tested first.
module _ (n : ℕ) where
  pub count_short : n < 40 → bad_byte_count n ≡ true
  unfolding bad_byte_count
  count_short h = rw (lt-ltb n 40 h)

  pub count_long : 40 ≤ n → 65536 < n → bad_byte_count n ≡ true
  unfolding bad_byte_count
  count_long h g = rw (le-ltb n 40 h, lt-ltb 65536 n g)

  pub count_odd : 40 ≤ n → n ≤ 65536 → n % 8 ≢ 0 → bad_byte_count n ≡ true
  unfolding bad_byte_count
  count_odd h g o = rw (le-ltb n 40 h, le-ltb 65536 n g, ne_eqb (n % 8) 0 o)

  pub count_right : 40 ≤ n → n ≤ 65536 → n % 8 ≡ 0 → bad_byte_count n ≡ false
  unfolding bad_byte_count
  count_right h g e = rw (le-ltb n 40 h, le-ltb 65536 n g, eq-eqb (n % 8) 0 e)

pub text_of_bad_count : (bytes : List ℕ) → bad_byte_count (length bytes) ≡ true → refused_line 10 ≡ root_text bytes
unfolding root_text program_reply reply_text
text_of_bad_count bytes e = sym (ap reply_text (applied 10 (bad_byte_count (length bytes)) _ _ e))

pub text_of_numbers : (bytes ns : List ℕ) (n : ℕ) → bad_byte_count (length bytes) ≡ false → n ≡ length bytes / 8 → ns ≡ numbers_of 8 n bytes
    → reply_text (reply (read_refusals ns) (read_root ns)) ≡ root_text bytes
unfolding root_text program_reply
text_of_numbers bytes ns n e i d =
    ap (λ (xs : List ℕ). reply_text (reply (read_refusals xs) (read_root xs))) (d ∙ ap (λ (k : ℕ). numbers_of 8 k bytes) i)
    ∙ sym (ap reply_text (passed 10 (bad_byte_count (length bytes)) _ _ e))

pub empty_input : EmptyInput
unfolding refused_line decimal digits
empty_input = sym (text_of_bad_count [] (count_short 0 (lit< tt)))
