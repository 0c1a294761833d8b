-- `typecheck::run::check_with` meets its contract. Assumes nothing.
use Rattle.typecheck.proofs.Running.{answering}
use Rattle.typecheck.proofs.run.check_with.Goals as goal

pub returns-in-Err-clause-buf_after : goal.returns-in-Err-clause-buf_after
returns-in-Err-clause-buf_after c = search answering

pub returns-clause-buf_after : goal.returns-clause-buf_after
returns-clause-buf_after c = search answering

pub returns-clause-spared : goal.returns-clause-spared
returns-clause-spared c = search answering
