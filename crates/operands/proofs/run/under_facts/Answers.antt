use Rattle.operands.proofs.Asking.{comparing}
use Rattle.operands.proofs.run.under_facts.Goals as goal

pub returns-in-Comparison : goal.returns-in-Comparison
returns-in-Comparison c = search comparing

pub returns-in_default : goal.returns-in_default
returns-in_default c = search comparing
