-- `resolution::all::agreed` meets its contract. Assumes nothing.
use Rattle.resolution.proofs.AllTypes.{joining}
use Rattle.resolution.proofs.all.agreed.Goals as goal

pub returns-then-equal : goal.returns-then-equal
returns-then-equal c = search joining

pub returns : goal.returns
returns c = search joining
