-- `steps::state::answered` meets its contract. Assumes nothing.
use Rattle.steps.proofs.States.{states}
use Rattle.steps.proofs.state.answered.Goals as goal

pub returns : goal.returns
returns c = search (states, c.default.ensures)
