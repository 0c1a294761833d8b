-- `lookup::missing::put_entities` meets its contract. Assumes nothing.
use Rattle.lookup.proofs.Listing.{puts_entities}
use Rattle.lookup.proofs.missing.put_entities.Goals as goal

pub loop-p-init : goal.loop-p-init
loop-p-init c = search puts_entities

pub loop-p-preserved : goal.loop-p-preserved
loop-p-preserved c = search puts_entities

pub returns : goal.returns
returns c = search puts_entities

pub loop-p-smaller : goal.loop-p-smaller
loop-p-smaller c = search puts_entities

pub put_word-place-requires : goal.put_word-place-requires
put_word-place-requires c = search puts_entities
