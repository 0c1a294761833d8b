-- `lookup::entry::for_target` meets its contract. Assumes nothing.
use Rattle.lookup.proofs.Runs.{targeting}
use Rattle.lookup.proofs.entry.for_target.Goals as goal

pub returns-in_default : goal.returns-in_default
returns-in_default c = search targeting

pub returns : goal.returns
returns c = search targeting
