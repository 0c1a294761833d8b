-- `lookup::missing::put_missing` meets its contract. Assumes nothing.
use Rattle.lookup.proofs.Listing.{puts_missing}
use Rattle.lookup.proofs.missing.put_missing.Goals as goal

pub put_word-place-requires : goal.put_word-place-requires
put_word-place-requires c = search puts_missing

pub put_entities-requires : goal.put_entities-requires
put_entities-requires c = search puts_missing

pub returns : goal.returns
returns c = search puts_missing
