use Rattle.rules.proofs.Argued.{arguing}
use Rattle.rules.proofs.predicate.arguments.Goals as goal

pub loop-left-init : goal.loop-left-init
loop-left-init c = search arguing

pub loop-left-preserved : goal.loop-left-preserved
loop-left-preserved c = search arguing

pub returns : goal.returns
returns c = search arguing
