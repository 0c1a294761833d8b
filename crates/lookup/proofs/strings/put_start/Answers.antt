-- `lookup::strings::put_start` meets its contract. Assumes nothing.
use Rattle.lookup.proofs.Parts.{starts}
use Rattle.lookup.proofs.strings.put_start.Goals as goal

pub returns : goal.returns
returns c = search starts
