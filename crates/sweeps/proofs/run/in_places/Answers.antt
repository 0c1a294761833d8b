-- `sweeps::run::in_places` meets its contract. Assumes nothing.
use Rattle.sweeps.proofs.Running.{placing}
use Rattle.sweeps.proofs.run.in_places.Goals as goal

pub loop-i-init : goal.loop-i-init
loop-i-init c = search placing

pub loop-i-preserved : goal.loop-i-preserved
loop-i-preserved c = search placing

pub returns : goal.returns
returns c = search placing
