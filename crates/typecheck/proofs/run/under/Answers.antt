-- `typecheck::run::under` meets its contract. Assumes nothing.
use Rattle.typecheck.proofs.Running.{where_checked}
use Rattle.typecheck.proofs.run.under.Goals as goal

pub returns-in_default : goal.returns-in_default
returns-in_default c = search where_checked

pub returns : goal.returns
returns c = search where_checked
