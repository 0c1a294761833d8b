-- `condition::window::unit_seconds` meets its contract. Assumes nothing.
use Rattle.condition.proofs.Windows.{units_read}
use Rattle.condition.proofs.window.unit_seconds.Goals as goal

pub returns-in-0 : goal.returns-in-0
returns-in-0 c = search units_read

pub returns-in-1 : goal.returns-in-1
returns-in-1 c = search units_read

pub returns-in-2 : goal.returns-in-2
returns-in-2 c = search units_read

pub returns-in_default : goal.returns-in_default
returns-in_default c = search units_read
