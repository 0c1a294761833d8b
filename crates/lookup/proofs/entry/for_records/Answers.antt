-- `lookup::entry::for_records` meets its contract. Assumes nothing.
use Rattle.lookup.proofs.Runs.{positions}
use Rattle.lookup.proofs.entry.for_records.Goals as goal

pub returns-in_default : goal.returns-in_default
returns-in_default c = search positions

pub returns : goal.returns
returns c = search positions
