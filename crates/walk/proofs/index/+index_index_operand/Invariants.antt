use Rattle.std.proofs.Common.{length, ◌-◌}
use Rattle.walk.proofs.index.+index_index_operand.Given as goal

-- what is left of the bytes
abbrev pub decreases-index : goal.decreases-index
decreases-index l = length l.s.now - l.at

abbrev pub decreases-index_operand : goal.decreases-index_operand
decreases-index_operand l = length l.s.now - l.at
