-- A front that ends too early lies before the place, and one that does not reaches it.
use Rattle.std.proofs.Common.{rules}
use Rattle.offence.proofs.Halving.{start, met, later, sooner}
use Rattle.offence.proofs.find.place_of.Goals as goal

pub loop-low-init : goal.loop-low-init
loop-low-init c = search (rules, start)

pub loop-low-preserved-then-number_of-eq2 : goal.loop-low-preserved-then-number_of-eq2
loop-low-preserved-then-number_of-eq2 c = search (rules, later)

pub loop-low-preserved : goal.loop-low-preserved
loop-low-preserved c = search (rules, sooner)

pub returns : goal.returns
returns c = search (rules, met)
