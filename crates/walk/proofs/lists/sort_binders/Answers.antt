-- `walk::lists::sort_binders` meets its contract. Assumes nothing.
use Rattle.walk.proofs.Directories.{sorting}
use Rattle.walk.proofs.lists.sort_binders.Goals as goal

pub returns : goal.returns
returns c = search sorting
