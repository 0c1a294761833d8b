use Rattle.lookup.proofs.Listing.{CountingMissing}
use Rattle.lookup.proofs.missing.measure_missing.Given as goal

abbrev pub invariant-loop-p : goal.invariant-loop-p
invariant-loop-p l = CountingMissing l.q l.segment l.left l.m

abbrev pub decreases-loop-p : goal.decreases-loop-p
decreases-loop-p l = l.left.count
