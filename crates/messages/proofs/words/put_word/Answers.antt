-- `messages::words::put_word` meets its contract. Assumes nothing.
use Rattle.messages.proofs.Wording.{putting}
use Rattle.messages.proofs.words.put_word.Goals as goal

pub returns-in-Nothing : goal.returns-in-Nothing
returns-in-Nothing c = search putting
