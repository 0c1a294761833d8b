-- `steps::run::do_target` meets its contract. Assumes nothing.
use Rattle.steps.proofs.Doing.{doings}
use Rattle.steps.proofs.run.do_target.Goals as goal

pub done-requires : goal.done-requires
done-requires c = search doings

pub returns : goal.returns
returns c = search doings
