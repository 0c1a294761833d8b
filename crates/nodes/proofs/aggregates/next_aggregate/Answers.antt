-- `nodes::aggregates::next_aggregate` meets its contract. What is left of the terms has the same aggregates. Assumes nothing.
use Rattle.nodes.proofs.TermsLeft.{along_aggregates}
use Rattle.nodes.specs.Laws.Leaves.{leaf_next, leaf_stands, fewer_leaves}
use Rattle.nodes.proofs.aggregates.next_aggregate.Goals as goal

ruleset steps = (along_aggregates, leaf_next, leaf_stands, fewer_leaves)

pub returns-then-eq : goal.returns-then-eq
returns-then-eq c = search steps

pub loop-at-preserved : goal.loop-at-preserved
loop-at-preserved c = search steps

pub returns : goal.returns
returns c = search steps
