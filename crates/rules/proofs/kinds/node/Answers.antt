use Rattle.rules.proofs.AtNode.{nodes}
use Rattle.rules.proofs.kinds.node.Goals as goal

pub returns-in_default : goal.returns-in_default
returns-in_default c = search nodes
