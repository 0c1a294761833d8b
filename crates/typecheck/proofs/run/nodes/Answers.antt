-- `typecheck::run::nodes` meets its contract. The nodes that are left, visited, make the whole. Assumes nothing.
use Rattle.typecheck.proofs.Running.{each_node}
use Rattle.typecheck.proofs.run.nodes.Goals as goal

pub returns-then-now : goal.returns-then-now
returns-then-now c = search each_node

pub reached_at-at-requires-clause-index : goal.reached_at-at-requires-clause-index
reached_at-at-requires-clause-index c = search each_node

pub invariant_of-here : goal.invariant_of-here
invariant_of-here c = search (each_node, c.args.target.known)

pub loop-i-preserved : goal.loop-i-preserved
loop-i-preserved c = search each_node

pub returns : goal.returns
returns c = search each_node
