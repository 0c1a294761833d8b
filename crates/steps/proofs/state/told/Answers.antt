-- `steps::state::told` meets its contract. Assumes nothing.
use Rattle.steps.proofs.States.{states}
use Rattle.steps.proofs.state.told.Goals as goal

pub returns : goal.returns
returns c = search states
