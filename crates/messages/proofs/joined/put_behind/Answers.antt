-- `messages::joined::put_behind` meets its contract. Assumes nothing.
use Rattle.messages.specs.Laws.Segments.{texts}
use Rattle.messages.proofs.joined.put_behind.Goals as goal

pub returns : goal.returns
returns c = search texts
