-- `typecheck::run::under_target` meets its contract. Assumes nothing.
use Rattle.typecheck.proofs.Running.{one_target}
use Rattle.typecheck.proofs.run.under_target.Goals as goal

pub action_among-found-requires : goal.action_among-found-requires
action_among-found-requires c = search one_target

pub invariant_of-result : goal.invariant_of-result
invariant_of-result c = search one_target

pub returns-then-is_checked : goal.returns-then-is_checked
returns-then-is_checked c = search one_target

pub returns : goal.returns
returns c = search one_target
