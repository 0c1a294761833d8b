-- `condition::read::read_slot` meets its contract. Assumes nothing.
use Rattle.condition.proofs.Leaves.{leaves}
use Rattle.condition.proofs.read.read_slot.Goals as goal

pub returns-in_default : goal.returns-in_default
returns-in_default c = search leaves

pub returns-in-0 : goal.returns-in-0
returns-in-0 c = search leaves

pub returns-in-1 : goal.returns-in-1
returns-in-1 c = search leaves

pub returns-in_default-kind : goal.returns-in_default-kind
returns-in_default-kind c = search leaves
