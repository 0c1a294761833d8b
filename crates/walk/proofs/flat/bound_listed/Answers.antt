use Rattle.walk.proofs.Environments.{finding}
use Rattle.walk.proofs.flat.bound_listed.Goals as goal

pub offset_bounds-table-i : goal.offset_bounds-table-i
offset_bounds-table-i c = search finding

pub bounds-table-i : goal.bounds-table-i
bounds-table-i c = search finding

pub past_slot-requires : goal.past_slot-requires
past_slot-requires c = search finding

pub bound_at-requires : goal.bound_at-requires
bound_at-requires c = search finding

pub returns-in-Ok : goal.returns-in-Ok
returns-in-Ok c = search finding

pub returns-in-Err : goal.returns-in-Err
returns-in-Err c = search finding
