-- `typecheck::run::check_target` meets its contract. Assumes nothing.
use Rattle.typecheck.proofs.Running.{prepared}
use Rattle.typecheck.proofs.run.check_target.Goals as goal

pub returns : goal.returns
returns c = search prepared
