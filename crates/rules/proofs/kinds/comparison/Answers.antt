use Rattle.rules.proofs.AtNode.{comparisons}
use Rattle.rules.proofs.kinds.comparison.Goals as goal

pub returns : goal.returns
returns c = search comparisons
