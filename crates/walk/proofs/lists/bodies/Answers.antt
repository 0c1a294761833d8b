-- `walk::lists::bodies` meets its contract. Assumes nothing.
use Rattle.walk.proofs.Directories.{listing_record}
use Rattle.walk.proofs.lists.bodies.Goals as goal

pub list_rows-requires : goal.list_rows-requires
list_rows-requires c = search listing_record

pub returns-clause-bodies : goal.returns-clause-bodies
returns-clause-bodies c = search listing_record

pub slice_bounds-list_rows-end-2 : goal.slice_bounds-list_rows-end-2
slice_bounds-list_rows-end-2 c = search listing_record
