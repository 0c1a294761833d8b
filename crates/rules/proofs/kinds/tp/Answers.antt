use Rattle.rules.proofs.AtNode.{judging}
use Rattle.rules.proofs.kinds.tp.Goals as goal

pub returns : goal.returns
returns c = search judging
