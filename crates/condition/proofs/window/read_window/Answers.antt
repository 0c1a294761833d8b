-- `condition::window::read_window` meets its contract. Assumes nothing.
use Rattle.condition.proofs.Windows.{windows}
use Rattle.condition.proofs.window.read_window.Goals as goal

pub returns-then-version-le1 : goal.returns-then-version-le1
returns-then-version-le1 c = search windows

pub returns-in_default : goal.returns-in_default
returns-in_default c = search windows

pub returns-in-0 : goal.returns-in-0
returns-in-0 c = search windows

pub returns-in-1 : goal.returns-in-1
returns-in-1 c = search windows

pub returns-in_default-kind : goal.returns-in_default-kind
returns-in_default-kind c = search windows
