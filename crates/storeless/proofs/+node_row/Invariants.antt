-- A node falls to the row below it, and a row to its nodes but the last, and to the last; a row of leaves is copied.
use Rattle.std.proofs.Common.{◌+◌, ◌*◌}
use Rattle.storeless.proofs.+node_row.Given as goal

abbrev pub decreases-node : goal.decreases-node
decreases-node l = 16 * l.level

abbrev pub decreases-row : goal.decreases-row
decreases-row l = 16 * l.level + l.n + 1
