-- `sweeps::run::in_record` meets its contract. Assumes nothing.
use Rattle.sweeps.proofs.Running.{recording}
use Rattle.sweeps.proofs.run.in_record.Goals as goal

pub returns : goal.returns
returns c = search recording
