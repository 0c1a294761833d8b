-- `lookup::strings::put_string` meets its contract. Assumes nothing.
use Rattle.lookup.proofs.Parts.{strings}
use Rattle.lookup.proofs.strings.put_string.Goals as goal

pub put_u16-next-requires : goal.put_u16-next-requires
put_u16-next-requires c = search strings

pub returns : goal.returns
returns c = search strings
