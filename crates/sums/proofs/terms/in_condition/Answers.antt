-- `sums::terms::in_condition` meets its contract. Assumes nothing.
use Rattle.nodes.specs.Laws.Numbers.{not_comparison, not_predicate}
use Rattle.sums.proofs.Visiting.{nodes}
use Rattle.sums.proofs.terms.in_condition.Goals as goal

pub returns-in-Predicate : goal.returns-in-Predicate
returns-in-Predicate c = search nodes

pub returns-in_default : goal.returns-in_default
returns-in_default c = search (nodes, not_comparison, not_predicate)
