use Rattle.walk.proofs.Lookups.{holding}
use Rattle.walk.proofs.around.bound_held.Goals as goal

pub bounds-s-at : goal.bounds-s-at
bounds-s-at c = search holding

pub first_part-requires : goal.first_part-requires
first_part-requires c = search holding

pub bound_one-requires : goal.bound_one-requires
bound_one-requires c = search holding

pub returns-then-s-at-eq9 : goal.returns-then-s-at-eq9
returns-then-s-at-eq9 c = search holding

pub bound_entered-requires-clause-entry : goal.bound_entered-requires-clause-entry
bound_entered-requires-clause-entry c = search holding

pub binders_at-requires-clause-at_value : goal.binders_at-requires-clause-at_value
binders_at-requires-clause-at_value c = search holding

pub binders_at-requires-clause-fact : goal.binders_at-requires-clause-fact
binders_at-requires-clause-fact c = search holding

pub returns-in-Some : goal.returns-in-Some
returns-in-Some c = search holding

pub returns-in-None : goal.returns-in-None
returns-in-None c = search holding
