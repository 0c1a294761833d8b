-- `condition::window::fits` meets its contract. Assumes nothing.
use Rattle.std.proofs.Common.{rules}
use Rattle.condition.proofs.Windows.{fitting}
use Rattle.condition.proofs.window.fits.Goals as goal

pub returns : goal.returns
returns c = search (rules, fitting)
