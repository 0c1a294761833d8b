-- `lookup::missing::measure_missing` meets its contract. Assumes nothing.
use Rattle.lookup.proofs.Listing.{counts_missing}
use Rattle.lookup.proofs.missing.measure_missing.Goals as goal

pub loop-p-init : goal.loop-p-init
loop-p-init c = search counts_missing

pub loop-p-preserved : goal.loop-p-preserved
loop-p-preserved c = search counts_missing

pub returns : goal.returns
returns c = search counts_missing

pub loop-p-smaller : goal.loop-p-smaller
loop-p-smaller c = search counts_missing

pub one_more-m-requires : goal.one_more-m-requires
one_more-m-requires c = search counts_missing
