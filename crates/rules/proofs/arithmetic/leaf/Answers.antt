use Rattle.rules.proofs.AtNode.{leaf_kinds}
use Rattle.rules.proofs.arithmetic.leaf.Goals as goal

pub returns-in-Wildcard : goal.returns-in-Wildcard
returns-in-Wildcard c = search leaf_kinds

pub returns-in-Aggregate : goal.returns-in-Aggregate
returns-in-Aggregate c = search leaf_kinds

pub returns-in_default : goal.returns-in_default
returns-in_default c = search leaf_kinds
