-- `walk::index::enclosing` meets its contract. Assumes nothing.
use Rattle.walk.proofs.ByPlace.{indexing}
use Rattle.walk.proofs.index.enclosing.Goals as goal

pub index-filled-requires-clause-at_value : goal.index-filled-requires-clause-at_value
index-filled-requires-clause-at_value c = search indexing

pub index-filled-requires-clause-room : goal.index-filled-requires-clause-room
index-filled-requires-clause-room c = search indexing

pub returns-clause-enclosing : goal.returns-clause-enclosing
returns-clause-enclosing c = search indexing
