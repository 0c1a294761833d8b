-- `condition::values::read_value` meets its contract. Assumes nothing.
use Rattle.condition.proofs.Given.{values}
use Rattle.condition.proofs.values.read_value.Goals as goal

pub returns-in_default : goal.returns-in_default
returns-in_default c = search values

pub returns-in-Integer : goal.returns-in-Integer
returns-in-Integer c = search values

pub returns-in-Decimal : goal.returns-in-Decimal
returns-in-Decimal c = search values

pub returns-in-String : goal.returns-in-String
returns-in-String c = search values

pub returns-in_default-2 : goal.returns-in_default-2
returns-in_default-2 c = search values

pub returns-in-Entity : goal.returns-in-Entity
returns-in-Entity c = search values
