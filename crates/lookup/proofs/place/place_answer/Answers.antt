-- `lookup::place::place_answer` meets its contract. Assumes nothing.
use Rattle.lookup.proofs.Outputs.{placing}
use Rattle.lookup.proofs.place.place_answer.Goals as goal

pub returns-then-out-m : goal.returns-then-out-m
returns-then-out-m c = search placing

pub put_strings-next-requires : goal.put_strings-next-requires
put_strings-next-requires c = search placing

pub returns : goal.returns
returns c = search placing
