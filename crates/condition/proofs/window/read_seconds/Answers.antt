-- `condition::window::read_seconds` meets its contract. Assumes nothing.
use Rattle.condition.proofs.Windows.{windows}
use Rattle.condition.proofs.window.read_seconds.Goals as goal

pub returns-in_default : goal.returns-in_default
returns-in_default c = search windows

pub returns-then-unit-gt3 : goal.returns-then-unit-gt3
returns-then-unit-gt3 c = search windows

pub returns : goal.returns
returns c = search windows
