-- `sums::run::in_places` meets its contract. Assumes nothing.
use Rattle.sums.proofs.Visiting.{placing}
use Rattle.sums.proofs.run.in_places.Goals as goal

pub loop-node-init : goal.loop-node-init
loop-node-init c = search placing

pub loop-node-preserved : goal.loop-node-preserved
loop-node-preserved c = search placing

pub returns : goal.returns
returns c = search placing
