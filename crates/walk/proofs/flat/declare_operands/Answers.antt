use Rattle.walk.proofs.Declarations.{declaring_operands}
use Rattle.walk.proofs.flat.declare_operands.Goals as goal

pub loop-aggregate-init : goal.loop-aggregate-init
loop-aggregate-init c = search declaring_operands

pub next_aggregate-requires : goal.next_aggregate-requires
next_aggregate-requires c = search declaring_operands

pub declare_aggregate-so_far-requires-clause-may_declare :
    goal.declare_aggregate-so_far-requires-clause-may_declare
declare_aggregate-so_far-requires-clause-may_declare c = search declaring_operands

pub loop-aggregate-smaller : goal.loop-aggregate-smaller
loop-aggregate-smaller c = search declaring_operands

pub loop-aggregate-preserved : goal.loop-aggregate-preserved
loop-aggregate-preserved c = search declaring_operands

pub returns : goal.returns
returns c = search declaring_operands
