-- `resolution::listing::fails_at` meets its contract. Assumes nothing.
use Rattle.schema.specs.Laws.Nearby.{near_word}
use Rattle.resolution.specs.Laws.Failing.{failures}
use Rattle.resolution.proofs.listing.fails_at.Goals as goal

pub returns-in_default : goal.returns-in_default
returns-in_default c = search (failures, near_word)

pub returns : goal.returns
returns c = search (failures, near_word)
