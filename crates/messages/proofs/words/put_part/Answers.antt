-- `messages::words::put_part` meets its contract. Assumes nothing.
use Rattle.messages.proofs.Wording.{parting}
use Rattle.messages.proofs.words.put_part.Goals as goal

pub returns : goal.returns
returns c = search parting
