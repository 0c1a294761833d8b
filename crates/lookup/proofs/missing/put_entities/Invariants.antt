use Rattle.lookup.proofs.Listing.{PuttingMissing}
use Rattle.lookup.proofs.missing.put_entities.Given as goal

abbrev pub invariant-loop-p : goal.invariant-loop-p
invariant-loop-p l = PuttingMissing l.q l.segment l.initial.out l.at l.left l.out l.place

abbrev pub decreases-loop-p : goal.decreases-loop-p
decreases-loop-p l = l.left.count
