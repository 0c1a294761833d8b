-- `lookup::entry::candidates` meets its contract. Assumes nothing.
use Rattle.lookup.proofs.Runs.{asking}
use Rattle.lookup.proofs.entry.candidates.Goals as goal
use Rattle.lookup.proofs.entry.candidates.Goals.{in-Principal, in-Resource}

pub returns : goal.returns
returns c = elim c.match-side.branch [ in-Principal w ↦ search asking | in-Resource w ↦ search asking ]
