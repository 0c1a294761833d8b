-- `resolution::all::alone` meets its contract. Assumes nothing.
use Rattle.resolution.proofs.AllTypes.{ending}
use Rattle.resolution.proofs.all.alone.Goals as goal

pub returns-in-Err : goal.returns-in-Err
returns-in-Err c = search ending
