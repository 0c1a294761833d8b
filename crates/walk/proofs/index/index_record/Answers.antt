-- `walk::index::index_record` meets its contract. Assumes nothing.
use Rattle.walk.proofs.ByPlace.{indexing}
use Rattle.walk.proofs.index.index_record.Goals as goal

pub index-filled-requires-clause-at_value : goal.index-filled-requires-clause-at_value
index-filled-requires-clause-at_value c = search indexing

pub index-filled-requires-clause-room : goal.index-filled-requires-clause-room
index-filled-requires-clause-room c = search indexing

pub returns-clause-index : goal.returns-clause-index
returns-clause-index c = search indexing
