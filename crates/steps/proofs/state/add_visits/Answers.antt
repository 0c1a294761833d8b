-- `steps::state::add_visits` meets its contract. Assumes nothing.
use Rattle.steps.proofs.States.{states}
use Rattle.steps.proofs.state.add_visits.Goals as goal

pub returns : goal.returns
returns c = search (states, c.try_from.ensures)
