use Rattle.walk.proofs.Directories.{listing_rows}
use Rattle.walk.proofs.lists.list_rows.Goals as goal

pub loop-row-init : goal.loop-row-init
loop-row-init c = search listing_rows

pub list_row-lists-requires-clause-holder_in : goal.list_row-lists-requires-clause-holder_in
list_row-lists-requires-clause-holder_in c = search listing_rows

pub list_row-lists-requires-clause-may_list : goal.list_row-lists-requires-clause-may_list
list_row-lists-requires-clause-may_list c = search listing_rows

pub loop-row-preserved : goal.loop-row-preserved
loop-row-preserved c = search listing_rows

pub overflow_cast-table : goal.overflow_cast-table
overflow_cast-table c = search listing_rows

pub returns : goal.returns
returns c = search listing_rows
