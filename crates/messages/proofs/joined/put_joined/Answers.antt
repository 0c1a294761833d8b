-- `messages::joined::put_joined` meets its contract. Assumes nothing.
use Rattle.messages.specs.Laws.Segments.{joining}
use Rattle.messages.proofs.joined.put_joined.Goals as goal

pub put-next-requires : goal.put-next-requires
put-next-requires c = search joining

pub past_word-requires : goal.past_word-requires
past_word-requires c = search joining

pub put_segments-requires-clause-first_value : goal.put_segments-requires-clause-first_value
put_segments-requires-clause-first_value c = search joining

pub put_segments-requires-clause-first_in_bounds : goal.put_segments-requires-clause-first_in_bounds
put_segments-requires-clause-first_in_bounds c = search joining

pub returns : goal.returns
returns c = search joining
