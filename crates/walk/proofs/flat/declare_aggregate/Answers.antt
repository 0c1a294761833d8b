-- `walk::flat::declare_aggregate` meets its contract. Assumes nothing.
use Rattle.walk.proofs.Declarations.{declaring_aggregate}
use Rattle.walk.proofs.flat.declare_aggregate.Goals as goal

pub returns-in-Call : goal.returns-in-Call
returns-in-Call c = search declaring_aggregate
