-- `targets::read::read_side` meets its contract. Assumes nothing.
use Rattle.targets.proofs.Reading.{side_whole}
use Rattle.targets.proofs.read.read_side.Goals as goal

pub returns-in_default : goal.returns-in_default
returns-in_default c = search side_whole

pub returns-in-0 : goal.returns-in-0
returns-in-0 c = search side_whole

pub returns-in_default-side : goal.returns-in_default-side
returns-in_default-side c = search side_whole
