-- `resolution::all::among` meets its contract. Assumes nothing.
use Rattle.resolution.proofs.AllTypes.{ending}
use Rattle.resolution.proofs.all.among.Goals as goal

pub returns-in-Err : goal.returns-in-Err
returns-in-Err c = search ending
