-- `resolution::listing::next_failing` meets its contract. Assumes nothing.
use Rattle.resolution.specs.Laws.Failing.{failing_path}
use Rattle.resolution.proofs.listing.next_failing.Goals as goal

pub returns-in_err-split_first : goal.returns-in_err-split_first
returns-in_err-split_first c = search (failing_path, c.in_err-split_first.was)
