use Rattle.std.proofs.Common.{◌-◌, length}
use Rattle.names.specs.Read.{ending, row}
use Rattle.schema.specs.Places.{attribute_at}
use Rattle.schema.proofs.Passing.{FieldsLeft}
use Rattle.schema.proofs.past.past_attributes.Given as goal

abbrev pub invariant-loop-left : goal.invariant-loop-left
invariant-loop-left l = FieldsLeft l.s (ending (row attribute_at l.fn.first.count l.s l.fn.first.at)) l.left l.at

abbrev pub decreases-loop-left : goal.decreases-loop-left
decreases-loop-left l = length l.s - l.at
