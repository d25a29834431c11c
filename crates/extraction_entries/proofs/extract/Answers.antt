use mathlib.Core.Path.{◌≡◌, sym, ◌∙◌}
use Prim.Native.Nat.{◌<◌}
use Rattle.refusals.specs.Table.{first_refusal}
use Rattle.merkle.specs.Lists.{lowest}
use Rattle.merkle.specs.Extraction.{collide_at}
use Rattle.paths.specs.Levels.{level_or}
use Rattle.trees.specs.SetTrees.{tree_of_set}
use Rattle.trees.proofs.SetTrees as tree_of
use Rattle.extraction_entries.specs.Extraction.{pair, extract_refusals}
use Rattle.extraction_entries.proofs.AcceptedPairs.{Paired}
use Rattle.extraction_entries.proofs.Extracted.{paired, level_below, extracted, refused_extract}
use Rattle.extraction_entries.proofs.extract.Goals as goal
use Rattle.extraction_entries.proofs.extract.Goals.{After-lowest_level-level, In_ok-check_extract}

pub returns-in_err-check_extract : goal.returns-in_err-check_extract
returns-in_err-check_extract c = refused_extract _ _ _ _ _ _ c.from_residual.ensures.1 c.in_err-check_extract.ensures

-- what is handed in; nothing of it is refused
none : (c : In_ok-check_extract) → let a = c.args in let t = pair a.root.now a.place a.first.now a.first_siblings.now a.second.now a.second_siblings.now in first_refusal (extract_refusals c.args.set t c.args.first_row.now c.args.second_row.now) ≡ 0
none c = sym c.in_ok-check_extract.ensures

passed : (c : In_ok-check_extract) → let a = c.args in let t = pair a.root.now a.place a.first.now a.first_siblings.now a.second.now a.second_siblings.now in Paired c.args.set t c.args.first_row.now c.args.second_row.now
passed c = paired _ _ _ _ (none c)

pub dimensions-d-requires : goal.dimensions-d-requires
dimensions-d-requires c = (passed c).set

pub lowest_level-level-requires : goal.lowest_level-level-requires
lowest_level-level-requires c =
    let A = passed (goal.at.lowest_level-level-requires c).In_ok-check_extract in
    rw c.dimensions-d.ensures (tree_of.valid_set _ A.set, A.opening.leaf_long, A.opening.siblings_long, A.other.leaf_long, A.other.siblings_long)

-- the level that was found is the lowest at which the rows collide
level : (j : After-lowest_level-level)
    → let a = j.args in let t = pair a.root.now a.place a.first.now a.first_siblings.now a.second.now a.second_siblings.now in let h = a.set.height in
    j.lowest_level-level.result ≡ level_or h (lowest (collide_at (tree_of_set a.set) t.place t.first_leaf t.first_siblings t.second_leaf t.second_siblings) h)
level j = rw j.dimensions-d.ensures at j.lowest_level-level.ensures

below : (j : After-lowest_level-level) → j.lowest_level-level.result < j.args.set.height
below j = level_below _ _ _ _ (sym j.in_ok-check_extract.ensures) _ (level j)

pub copy_row-requires : goal.copy_row-requires
copy_row-requires c =
    let A = passed (goal.at.copy_row-requires c).In_ok-check_extract in
    rw c.dimensions-d.ensures (tree_of.valid_set _ A.set, A.opening.leaf_long, below (goal.at.copy_row-requires c).After-lowest_level-level, A.opening.siblings_long, A.first_long ∙ sym (tree_of.width_is _ A.set))

pub copy_row-requires-2 : goal.copy_row-requires-2
copy_row-requires-2 c =
    let A = passed (goal.at.copy_row-requires-2 c).In_ok-check_extract in
    rw c.dimensions-d.ensures (tree_of.valid_set _ A.set, A.other.leaf_long, below (goal.at.copy_row-requires-2 c).After-lowest_level-level, A.other.siblings_long, A.second_long ∙ sym (tree_of.width_is _ A.set))

pub returns : goal.returns
returns c =
    extracted _ _ _ _ (none (goal.at.returns c).In_ok-check_extract) _ (level (goal.at.returns c).After-lowest_level-level)
    (rw c.dimensions-d.ensures at c.copy_row.ensures)
    (rw c.dimensions-d.ensures at c.copy_row-2.ensures)
