-- `condition::choice::read_choice` meets its contract. Assumes nothing.
use Rattle.condition.proofs.Choosing.{choices}
use Rattle.condition.proofs.choice.read_choice.Goals as goal

pub returns-in-Some : goal.returns-in-Some
returns-in-Some c = search choices

pub returns-in-Some-2 : goal.returns-in-Some-2
returns-in-Some-2 c = search choices

pub returns-in-None : goal.returns-in-None
returns-in-None c = search choices
