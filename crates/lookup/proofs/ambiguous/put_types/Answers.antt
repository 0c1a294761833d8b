-- `lookup::ambiguous::put_types` meets its contract. Assumes nothing.
use Rattle.lookup.proofs.Renderings.{puts_types}
use Rattle.lookup.proofs.ambiguous.put_types.Goals as goal

pub loop-t-init : goal.loop-t-init
loop-t-init c = search puts_types

pub loop-t-preserved : goal.loop-t-preserved
loop-t-preserved c = search puts_types

pub returns : goal.returns
returns c = search puts_types

pub loop-t-smaller : goal.loop-t-smaller
loop-t-smaller c = search puts_types

pub put_type-place-requires-clause-t_in_bounds : goal.put_type-place-requires-clause-t_in_bounds
put_type-place-requires-clause-t_in_bounds c = search puts_types
