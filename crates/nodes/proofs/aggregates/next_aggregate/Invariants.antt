use Rattle.nodes.specs.Parts.{aggregates_in, leaves_in}
use Rattle.nodes.proofs.TermsLeft.{AggregatesLeft}
use Rattle.std.specs.Prelude.{length}
use Rattle.nodes.proofs.aggregates.next_aggregate.Given as goal

-- what is left of the terms has the same aggregates
abbrev pub invariant-loop-at : goal.invariant-loop-at
invariant-loop-at l = AggregatesLeft l.s (aggregates_in l.s l.count l.first) l.left

abbrev pub decreases-loop-at : goal.decreases-loop-at
decreases-loop-at l = length (leaves_in l.s l.left.count l.left.first)
