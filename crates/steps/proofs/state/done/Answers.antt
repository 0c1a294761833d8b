-- `steps::state::done` meets its contract. Assumes nothing.
use Rattle.steps.proofs.States.{states}
use Rattle.steps.proofs.state.done.Goals as goal

pub returns : goal.returns
returns c = search states
