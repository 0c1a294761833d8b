use Rattle.walk.proofs.Directories.{ListingOn}
use Rattle.walk.proofs.lists.list_rows.Given as goal

abbrev pub invariant-loop-row : goal.invariant-loop-row
invariant-loop-row l = ListingOn l.s l.initial.table l.rows l.table l.lists
