-- `typecheck::run::all_targets` meets its contract. The targets that are left, visited, make the whole. Assumes nothing.
use Rattle.typecheck.proofs.Running.{each_target}
use Rattle.typecheck.proofs.run.all_targets.Goals as goal

pub returns-then-now : goal.returns-then-now
returns-then-now c = search each_target

pub under-done-requires-clause-at_value : goal.under-done-requires-clause-at_value
under-done-requires-clause-at_value c = search each_target

pub next_target-at-requires : goal.next_target-at-requires
next_target-at-requires c = search each_target

pub overflow_add-visits : goal.overflow_add-visits
overflow_add-visits c = search each_target

pub loop-preserved : goal.loop-preserved
loop-preserved c = search each_target

pub returns : goal.returns
returns c = search each_target
