-- `lookup::ambiguous::measure_types` meets its contract. Assumes nothing.
use Rattle.lookup.proofs.Renderings.{counts_types}
use Rattle.lookup.proofs.ambiguous.measure_types.Goals as goal

pub loop-t-init : goal.loop-t-init
loop-t-init c = search counts_types

pub loop-t-preserved : goal.loop-t-preserved
loop-t-preserved c = search counts_types

pub returns : goal.returns
returns c = search counts_types

pub loop-t-smaller : goal.loop-t-smaller
loop-t-smaller c = search counts_types

pub one_more-m-requires : goal.one_more-m-requires
one_more-m-requires c = search counts_types
