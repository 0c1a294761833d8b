-- `lookup::place::place_path` meets its contract. Assumes nothing.
use Rattle.lookup.proofs.Outputs.{paths}
use Rattle.lookup.proofs.place.place_path.Goals as goal

pub returns : goal.returns
returns c = search paths
