-- `walk::lists::list_aggregate` meets its contract. Assumes nothing.
use Rattle.walk.proofs.Directories.{listing}
use Rattle.walk.proofs.lists.list_aggregate.Goals as goal

pub bounds-s-start : goal.bounds-s-start
bounds-s-start c = search listing

pub returns : goal.returns
returns c = search listing
