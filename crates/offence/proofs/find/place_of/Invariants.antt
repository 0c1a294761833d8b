-- The place lies between the two ends, whose distance shrinks.
use Rattle.std.proofs.Common.{◌-◌}
use Rattle.offence.proofs.Halving.{Between}
use Rattle.offence.proofs.find.place_of.Given as goal

abbrev pub invariant-loop-low : goal.invariant-loop-low
invariant-loop-low l = Between l.kind l.bytes l.low l.high

abbrev pub decreases-loop-low : goal.decreases-loop-low
decreases-loop-low l = l.high - l.low
