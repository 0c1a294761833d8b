use lib.ListN.{length}
use Rattle.nodes.specs.Parts.{aggregates_in}
use Rattle.walk.proofs.Declarations.{AggregatesOn}
use Rattle.std.proofs.Common.{length}
use Rattle.condition.specs.Walk.{declares}
use Rattle.condition.specs.Places.{condition_in}
use Rattle.walk.proofs.flat.declare_operands.Given as goal

abbrev pub invariant-loop-aggregate : goal.invariant-loop-aggregate
invariant-loop-aggregate l = AggregatesOn l.s (declares (condition_in l.s l.at)) l.initial.table l.initial.so_far l.left l.table l.so_far

abbrev pub decreases-loop-aggregate : goal.decreases-loop-aggregate
decreases-loop-aggregate l = length (aggregates_in l.s l.left.count l.left.first)
