use Rattle.std.proofs.Common.{◌-◌, length}
use Rattle.schema.specs.Places.{Below}
use Rattle.schema.proofs.past.below_sets.Given as goal

abbrev pub invariant-loop-at : goal.invariant-loop-at
invariant-loop-at l = Below l.s l.start l.at

abbrev pub decreases-loop-at : goal.decreases-loop-at
decreases-loop-at l = length l.s - l.at
