-- `targets::read::read_narrowing` meets its contract. Assumes nothing.
use Rattle.targets.proofs.Reading.{narrowing_read}
use Rattle.targets.proofs.read.read_narrowing.Goals as goal

pub returns-in_default : goal.returns-in_default
returns-in_default c = search narrowing_read

pub returns-in-0 : goal.returns-in-0
returns-in-0 c = search narrowing_read

pub returns-in-2-to-4 : goal.returns-in-2-to-4
returns-in-2-to-4 c = search narrowing_read

pub returns-in_default-kind : goal.returns-in_default-kind
returns-in_default-kind c = search narrowing_read
