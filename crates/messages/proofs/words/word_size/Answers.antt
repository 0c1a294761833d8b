-- `messages::words::word_size` meets its contract. Assumes nothing.
use Rattle.messages.proofs.Wording.{sizing}
use Rattle.messages.proofs.words.word_size.Goals as goal

pub text_length-requires : goal.text_length-requires
text_length-requires c = search sizing

pub returns-in-Shown : goal.returns-in-Shown
returns-in-Shown c = search sizing
