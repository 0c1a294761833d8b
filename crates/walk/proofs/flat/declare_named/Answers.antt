-- `walk::flat::declare_named` meets its contract. Assumes nothing.
use Rattle.walk.proofs.Environments.{declaring_one, spot_there}
use Rattle.walk.proofs.flat.declare_named.Goals as goal

pub name_of-requires : goal.name_of-requires
name_of-requires c = search (declaring_one, spot_there)

pub replace-requires : goal.replace-requires
replace-requires c = search (declaring_one, spot_there)

pub insert-requires : goal.insert-requires
insert-requires c = search (declaring_one, spot_there)

pub returns-in-Ok : goal.returns-in-Ok
returns-in-Ok c = search (declaring_one, spot_there)

pub returns-in-Err : goal.returns-in-Err
returns-in-Err c = search (declaring_one, spot_there)
