-- `schema::rich::rich_type` meets its contract. Assumes nothing.
use Rattle.schema.proofs.Bases.{riches}
use Rattle.schema.proofs.rich.rich_type.Goals as goal

pub loop-t-init : goal.loop-t-init
loop-t-init c = search riches

pub loop-t-preserved : goal.loop-t-preserved
loop-t-preserved c = search riches
