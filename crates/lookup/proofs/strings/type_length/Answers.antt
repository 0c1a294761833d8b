-- `lookup::strings::type_length` meets its contract. Assumes nothing.
use Rattle.lookup.proofs.Parts.{strings}
use Rattle.lookup.proofs.strings.type_length.Goals as goal

pub text_length-requires : goal.text_length-requires
text_length-requires c = search strings

pub returns : goal.returns
returns c = search strings
