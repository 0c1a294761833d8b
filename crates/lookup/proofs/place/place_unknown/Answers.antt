-- `lookup::place::place_unknown` meets its contract. Assumes nothing.
use Rattle.lookup.proofs.Outputs.{unknowns}
use Rattle.lookup.proofs.place.place_unknown.Goals as goal

pub returns-then-out-lt3 : goal.returns-then-out-lt3
returns-then-out-lt3 c = search unknowns

pub returns : goal.returns
returns c = search unknowns
