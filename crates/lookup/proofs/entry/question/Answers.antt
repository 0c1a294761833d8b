-- `lookup::entry::question` meets its contract. Assumes nothing.
use Rattle.lookup.proofs.Runs.{asking}
use Rattle.lookup.proofs.entry.question.Goals as goal

pub returns : goal.returns
returns c = search asking
