-- `rules::arithmetic::leaves` meets its contract. The leaves that are left, put in, make the whole. Assumes nothing.
use Rattle.rules.proofs.AtNode.{each_leaf}
use Rattle.rules.proofs.arithmetic.leaves.Goals as goal

pub loop-at-init : goal.loop-at-init
loop-at-init c = search each_leaf

pub next_leaf-requires : goal.next_leaf-requires
next_leaf-requires c = search each_leaf

pub report-now-requires-clause-lent : goal.report-now-requires-clause-lent
report-now-requires-clause-lent c = search each_leaf

pub loop-at-preserved : goal.loop-at-preserved
loop-at-preserved c = search each_leaf

pub returns : goal.returns
returns c = search each_leaf
