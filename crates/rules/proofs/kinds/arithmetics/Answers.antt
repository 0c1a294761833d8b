use Rattle.rules.proofs.AtNode.{in_turn}
use Rattle.rules.proofs.kinds.arithmetics.Goals as goal

pub returns : goal.returns
returns c = search in_turn
