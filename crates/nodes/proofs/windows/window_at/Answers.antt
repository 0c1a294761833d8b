-- `nodes::windows::window_at` meets its contract. Assumes nothing.
use Rattle.nodes.proofs.Windowed.{windows}
use Rattle.nodes.proofs.windows.window_at.Goals as goal

pub bounds-s-at : goal.bounds-s-at
bounds-s-at c = search windows

pub said_at-requires : goal.said_at-requires
said_at-requires c = search windows

pub returns-in-4-to-6 : goal.returns-in-4-to-6
returns-in-4-to-6 c = search windows

pub returns-in_default : goal.returns-in_default
returns-in_default c = search windows

pub returns-in_default-2 : goal.returns-in_default-2
returns-in_default-2 c = search windows
