use Rattle.walk.proofs.Lookups.{among}
use Rattle.walk.proofs.around.bound_among.Goals as goal

pub overflow_add-at : goal.overflow_add-at
overflow_add-at c = search among

pub bounds-s-start : goal.bounds-s-start
bounds-s-start c = search among

pub loop-init : goal.loop-init
loop-init c = search among

pub bound_one-here-requires : goal.bound_one-here-requires
bound_one-here-requires c = search among

pub past_binder-at-requires : goal.past_binder-at-requires
past_binder-at-requires c = search among

pub loop-preserved : goal.loop-preserved
loop-preserved c = search among

pub returns : goal.returns
returns c = search among
