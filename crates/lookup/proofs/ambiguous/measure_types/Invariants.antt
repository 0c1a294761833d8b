use Rattle.lookup.proofs.Renderings.{CountingTypes, behind}
use lib.ListN.{length}
use Rattle.lookup.proofs.ambiguous.measure_types.Given as goal

abbrev pub invariant-loop-t : goal.invariant-loop-t
invariant-loop-t l = CountingTypes l.q l.last l.m

abbrev pub decreases-loop-t : goal.decreases-loop-t
decreases-loop-t l = length (behind l.q l.last)
