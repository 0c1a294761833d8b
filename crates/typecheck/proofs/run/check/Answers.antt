-- `typecheck::run::check` meets its contract. Assumes nothing.
use Rattle.typecheck.proofs.Running.{answering}
use Rattle.typecheck.proofs.run.check.Goals as goal

pub returns-in-Err : goal.returns-in-Err
returns-in-Err c = search answering

pub checked-requires : goal.checked-requires
checked-requires c = search answering

pub returns : goal.returns
returns c = search answering
