use Rattle.lookup.proofs.Renderings.{PuttingTypes, behind}
use lib.ListN.{length}
use Rattle.lookup.proofs.ambiguous.put_types.Given as goal

abbrev pub invariant-loop-t : goal.invariant-loop-t
invariant-loop-t l = PuttingTypes l.q l.initial.out l.at l.last l.out l.place

abbrev pub decreases-loop-t : goal.decreases-loop-t
decreases-loop-t l = length (behind l.q l.last)
