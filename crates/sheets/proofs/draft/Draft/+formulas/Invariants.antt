-- The bytes left in the holder fall. Assumes nothing.
use Rattle.std.proofs.Common.{◌+◌, ◌*◌, length}
use Rattle.sheets.proofs.draft.Draft.+formulas.Given as goal

abbrev pub decreases-formula : goal.decreases-formula
decreases-formula l = 2 * length l.holder.bytes.now

abbrev pub decreases-operands : goal.decreases-operands
decreases-operands l = 2 * length l.holder.bytes.now + 1
