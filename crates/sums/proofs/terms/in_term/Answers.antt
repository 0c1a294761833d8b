-- `sums::terms::in_term` meets its contract. Assumes nothing.
use Rattle.sums.proofs.Visiting.{leafing}
use Rattle.sums.proofs.terms.in_term.Goals as goal

ruleset steps = (leafing)

pub loop-leaf-init : goal.loop-leaf-init
loop-leaf-init c = search steps

pub loop-leaf-preserved : goal.loop-leaf-preserved
loop-leaf-preserved c = search steps

pub returns : goal.returns
returns c = search steps
