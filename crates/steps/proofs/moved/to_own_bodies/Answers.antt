-- `steps::moved::to_own_bodies` meets its contract. Assumes nothing.
use Rattle.steps.proofs.Moving.{moving}
use Rattle.steps.proofs.moved.to_own_bodies.Goals as goal

pub returns : goal.returns
returns c = search moving
