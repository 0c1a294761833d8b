use Rattle.walk.proofs.Lookups.{calling}
use Rattle.walk.proofs.around.bound_one.Goals as goal

pub slot_at-requires : goal.slot_at-requires
slot_at-requires c = search calling

pub returns-in_default : goal.returns-in_default
returns-in_default c = search calling

pub past_slot-requires : goal.past_slot-requires
past_slot-requires c = search calling

pub bound_at-requires : goal.bound_at-requires
bound_at-requires c = search calling

pub returns-then-same : goal.returns-then-same
returns-then-same c = search calling

pub returns : goal.returns
returns c = search calling
