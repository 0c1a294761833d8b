use Rattle.walk.proofs.Declarations.{declaring_row}
use Rattle.walk.proofs.flat.declare_all.Goals as goal

pub overflow_add-at : goal.overflow_add-at
overflow_add-at c = search declaring_row

pub bounds-s-start : goal.bounds-s-start
bounds-s-start c = search declaring_row

pub loop-init : goal.loop-init
loop-init c = search declaring_row

pub declare-so_far-requires-clause-at_value : goal.declare-so_far-requires-clause-at_value
declare-so_far-requires-clause-at_value c = search declaring_row

pub declare-so_far-requires-clause-may_declare : goal.declare-so_far-requires-clause-may_declare
declare-so_far-requires-clause-may_declare c = search declaring_row

pub past_binder-at-requires : goal.past_binder-at-requires
past_binder-at-requires c = search declaring_row

pub loop-preserved : goal.loop-preserved
loop-preserved c = search declaring_row

pub returns : goal.returns
returns c = search declaring_row
