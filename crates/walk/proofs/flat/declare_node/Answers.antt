-- `walk::flat::declare_node` meets its contract. Assumes nothing.
use Rattle.nodes.specs.Laws.Numbers.{passed_over}
use Rattle.walk.proofs.Declarations.{declaring_node}
use Rattle.walk.proofs.flat.declare_node.Goals as goal

pub declare-requires-clause-at_value : goal.declare-requires-clause-at_value
declare-requires-clause-at_value c = search declaring_node

pub declare-requires-clause-may_declare : goal.declare-requires-clause-may_declare
declare-requires-clause-may_declare c = search declaring_node

pub returns-in-Exists : goal.returns-in-Exists
returns-in-Exists c = search declaring_node

pub returns-in_default : goal.returns-in_default
returns-in_default c = search (declaring_node, passed_over)
