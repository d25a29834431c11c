-- What is claimed of the number that `opening_tree_verify` returns: it is 0 where the opening is accepted, and nowhere else (Rules 8.6).
use Rattle.std.specs.Prelude.{◌≡◌, true, List, ℕ}
use Rattle.refusals.specs.Table.{first_refusal}
use Rattle.set_arrays.specs.Arrays.{set_of}
use Rattle.merkle.specs.Openings.{accepts}
use Rattle.trees.specs.SetTrees.{tree_of_set}
use Rattle.tree_entries.specs.Trees.{verify_refusals, verify_reply}
use Rattle.replies.specs.Replies.{verdict_number}

-- Nothing refuses the set that the array is, the root, the place, the leaf and the siblings, and the leaf's path ends in the root.
pub record Yes (xs top : List ℕ) (q : ℕ) (leaf siblings : List ℕ) : Type 0 where
  pub unrefused : first_refusal (verify_refusals (set_of xs) top q leaf siblings) ≡ 0
  pub accepted : accepts (tree_of_set (set_of xs)) (set_of xs).height top q leaf siblings ≡ true

-- the number returned
abbrev pub returned : List ℕ → List ℕ → ℕ → List ℕ → List ℕ → ℕ
returned xs top q leaf siblings = verdict_number (verify_reply (set_of xs) top q leaf siblings)

abbrev pub OnlyYes : Type 0
OnlyYes =
    (xs top : List ℕ) (q : ℕ) (leaf siblings : List ℕ)
    → (returned xs top q leaf siblings ≡ 0 → Yes xs top q leaf siblings) × (Yes xs top q leaf siblings → returned xs top q leaf siblings ≡ 0)
