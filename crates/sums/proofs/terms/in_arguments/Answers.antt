-- `sums::terms::in_arguments` meets its contract. Assumes nothing.
use Rattle.sums.proofs.Visiting.{arguing}
use Rattle.sums.proofs.terms.in_arguments.Goals as goal

pub loop-done-init : goal.loop-done-init
loop-done-init c = search arguing

pub argument_at-p-requires-clause-at_value : goal.argument_at-p-requires-clause-at_value
argument_at-p-requires-clause-at_value c = search arguing

pub loop-done-preserved : goal.loop-done-preserved
loop-done-preserved c = search arguing

pub returns : goal.returns
returns c = search arguing
