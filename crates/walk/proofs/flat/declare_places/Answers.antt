use Rattle.walk.proofs.Declarations.{declaring_nodes}
use Rattle.walk.proofs.flat.declare_places.Goals as goal

pub loop-i-init : goal.loop-i-init
loop-i-init c = search declaring_nodes

pub declare_node-so_far-requires-clause-may_declare :
    goal.declare_node-so_far-requires-clause-may_declare
declare_node-so_far-requires-clause-may_declare c = search declaring_nodes

pub loop-i-preserved : goal.loop-i-preserved
loop-i-preserved c = search declaring_nodes

pub returns : goal.returns
returns c = search declaring_nodes
