use Rattle.rules.proofs.AtNode.{operand_kinds}
use Rattle.rules.proofs.arithmetic.arithmetic.Goals as goal

pub returns-in_default : goal.returns-in_default
returns-in_default c = search operand_kinds
