-- `schema::past::below_sets` meets its contract: the type at hand ends where the first does. Assumes nothing.
use Rattle.schema.proofs.Passing.{below_sets}
use Rattle.schema.proofs.past.below_sets.Goals as goal

pub loop-at-preserved : goal.loop-at-preserved
loop-at-preserved c = search below_sets
