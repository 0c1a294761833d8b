-- `decimal::write::places` meets its contract. Assumes nothing.
use borrow.Author.Rules.{rules}
use Rattle.decimal.specs.Laws.Digits.{one_place, places_power, power_few}
use Rattle.decimal.proofs.write.places.Goals as goal

pub returns-in-None : goal.returns-in-None
returns-in-None c = search (rules, one_place)

pub returns-in-Some : goal.returns-in-Some
returns-in-Some c = search (rules, places_power, power_few, c.in-Some.ensures.power_le, c.in-Some.ensures.next_power_gt)
