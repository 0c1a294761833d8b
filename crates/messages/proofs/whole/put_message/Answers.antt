-- `messages::whole::put_message` meets its contract. Assumes nothing.
use Rattle.messages.proofs.Wording.{writing}
use Rattle.messages.proofs.whole.put_message.Goals as goal

pub loop-i-init : goal.loop-i-init
loop-i-init c = search writing

pub put_part-at-requires-clause-i_in_bounds : goal.put_part-at-requires-clause-i_in_bounds
put_part-at-requires-clause-i_in_bounds c = search writing

pub loop-i-preserved : goal.loop-i-preserved
loop-i-preserved c = search writing

pub put_piece-requires : goal.put_piece-requires
put_piece-requires c = search writing

pub returns : goal.returns
returns c = search writing
