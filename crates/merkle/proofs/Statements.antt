-- Every regular shape has the laws of the tree.
use mathlib.Core.Path.{◌≡◌, sym, ap, ◌∙◌}
use mathlib.Core.List.{List}
use Prim.Native.Nat.{ℕ, suc, ◌+◌, ◌*◌, ◌^◌, ◌<◌}
use native.Mathlib.Nat.{pow-zero, one-mul, zero-add}
use native.Mathlib.Omega.{arith}
use lib.ListN.{length}
use Rattle.merkle.specs.Levels.{Shape, Regular, KeepsWords, Nodes, node, row, level, build, size}
use Rattle.merkle.specs.Openings.{opening_at, path_node, accepts}
use Rattle.merkle.specs.Replacement.{Counted, Change, places_of, replace, singly, push}
use Rattle.merkle.specs.Statements.{IsStore, Building, LeafRoot, Storeless, Opened, Accepting, Replaced, Proper, Pushed, Counts, EmptyPush, TreeLaws, WordLaws, EveryTree}
use Rattle.merkle.proofs.Lists.{same_true, eq_same}
use Rattle.merkle.proofs.Levels.{build_size, build_words, built_level, build_only, level_node, root_build}
use Rattle.merkle.proofs.Storeless.{node_from_row, row_from_none, row_from_nodes, storeless_root_lem}
use Rattle.merkle.proofs.Openings.{length-opening, opening_part, opening_words_lem, path_node_words, own_end, own_accepted}
use Rattle.merkle.proofs.Replacement.{replace_made, replace_build, singly_build, singly_words}
use Rattle.merkle.proofs.Above.{above_most, above_none, above_single, above_each}
use Rattle.merkle.proofs.Levelwise.{level_by_level_lem}
use Rattle.merkle.proofs.Extraction.{extracted, binding}

module _ (S : Shape) (G : Regular S) where
  open S use {arity as k, node_size as l, compress}

  pub is_store_lem : (h : ℕ) (leaves : List ℕ) → Nodes S (k ^ h) leaves → IsStore S h leaves (build S h leaves)
  unfolding level
  is_store_lem h leaves N =
      record {
        whole = build_size S G h leaves N;
        bottom = built_level S G h leaves N 0 (omega arith);
        each = λ j i b c.
            ap (node S i) (built_level S G h leaves N (suc j) b)
            ∙ level_node S G h leaves N j i b c
            ∙ ap (λ (z : List ℕ). compress (row S i z)) (sym (built_level S G h leaves N j (omega arith)));
      }

  building : (h : ℕ) (leaves : List ℕ) → Nodes S (k ^ h) leaves → Building S h leaves
  building h leaves N =
      record {
        is_store = is_store_lem h leaves N;
        only = λ store I. build_only S G h leaves store N I.whole I.bottom I.each;
        root_level = root_build S G h leaves N ∙ sym (built_level S G h leaves N h (omega arith));
      }

  leaf_root_lem : LeafRoot S
  unfolding level
  leaf_root_lem leaf e = root_build S G 0 leaf (e ∙ sym (ap (λ (a : ℕ). a * l) (pow-zero k) ∙ one-mul l))

  storeless : Storeless S
  storeless =
      record {
        from_row = node_from_row S;
        from_none = row_from_none S;
        from_nodes = row_from_nodes S;
        agrees = storeless_root_lem S G;
      }

  opened : (h q : ℕ) (store : List ℕ) → length store ≡ size S h → q < k ^ h → Opened S h q store
  unfolding opening_at
  opened h q store e b = record { long = length-opening S G h q store e b; part = opening_part S G h q store e b }

  replaced : (h q : ℕ) (leaves leaf : List ℕ) → Nodes S (k ^ h) leaves → q < k ^ h → length leaf ≡ l → Replaced S h q leaves leaf
  unfolding replace
  replaced h q leaves leaf N b e =
      let z : 0 + h ≡ h = omega arith in
      let r = replace_build S G h q leaves leaf N b e 0 in
      record { stored = ap (λ (s : Counted). s.store) r; counted = ap (λ (s : Counted). s.made) r ∙ z }

  pushed : (h : ℕ) (cs : List Change) (leaves : List ℕ) → Nodes S (k ^ h) leaves → Proper S h cs → Pushed S h cs leaves
  unfolding push
  pushed h cs leaves N P = singly_build S G h cs leaves P N

  counts : Counts S
  unfolding replace
  counts =
      record {
        one = λ h q leaf store. replace_made S G h q leaf (record { store = store; made = 0 }) ∙ zero-add h;
        most = above_most S G;
        single = above_single S G;
        each = above_each S G;
      }

  empty_push_lem : EmptyPush S
  unfolding push singly places_of
  empty_push_lem h store = λ i. record { store = store; made = above_none S G h i }

  accepting : Accepting S
  unfolding accepts
  accepting h r q leaf siblings = (same_true (path_node S q leaf siblings h) r, eq_same (path_node S q leaf siblings h) r)

  pub tree_laws : TreeLaws S
  tree_laws =
      record {
        building = building;
        leaf_root = leaf_root_lem;
        storeless = storeless;
        opened = opened;
        own_opening = λ h q leaves N b. record { ends = own_end S G h q leaves N b; accepted = own_accepted S G h q leaves N b };
        accepting = accepting;
        replaced = replaced;
        pushed = pushed;
        level_by_level = level_by_level_lem S G;
        counts = counts;
        empty_push = empty_push_lem;
        extracted = extracted S;
        binding = binding S G;
      }

  pub word_laws : (p : ℕ) → KeepsWords p S → WordLaws p S
  unfolding push
  word_laws p W =
      record {
        built = build_words S G p W;
        opened = opening_words_lem S G p;
        on_path = λ h q leaf siblings e f v w. path_node_words S G h q leaf siblings e f p W v w;
        pushed = λ h cs store P L e w. singly_words S G p W h cs store P L e w;
      }

pub every_tree : EveryTree
every_tree S G = (tree_laws S G, word_laws S G)
