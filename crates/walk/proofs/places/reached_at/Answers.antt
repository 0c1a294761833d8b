-- `walk::places::reached_at` meets its contract. Assumes nothing.
use Rattle.walk.proofs.ByPlace.{indexing}
use Rattle.walk.proofs.places.reached_at.Goals as goal

pub returns : goal.returns
returns c = search indexing
