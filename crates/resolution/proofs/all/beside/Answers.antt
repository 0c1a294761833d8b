-- `resolution::all::beside` meets its contract. Assumes nothing.
use Rattle.resolution.proofs.AllTypes.{joining}
use Rattle.resolution.proofs.all.beside.Goals as goal

pub returns-in-Err : goal.returns-in-Err
returns-in-Err c = search joining

pub returns-in-Ok : goal.returns-in-Ok
returns-in-Ok c = search joining
