-- `resolution::listing::is_missing_at` meets its contract. Assumes nothing.
use Rattle.resolution.specs.Laws.Failing.{failures}
use Rattle.resolution.proofs.listing.is_missing_at.Goals as goal

pub returns-in-Err-Missing : goal.returns-in-Err-Missing
returns-in-Err-Missing c = search failures

pub returns-in_default : goal.returns-in_default
returns-in_default c = search failures

pub returns-in_default-2 : goal.returns-in_default-2
returns-in_default-2 c = search failures
