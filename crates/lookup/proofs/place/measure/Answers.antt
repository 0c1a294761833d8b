-- `lookup::place::measure` meets its contract. Assumes nothing.
use Rattle.lookup.proofs.Outputs.{measuring}
use Rattle.lookup.proofs.place.measure.Goals as goal

pub returns-in-Resolved : goal.returns-in-Resolved
returns-in-Resolved c = search measuring

pub returns-in-NonRecord : goal.returns-in-NonRecord
returns-in-NonRecord c = search measuring

pub returns-in-Unknown : goal.returns-in-Unknown
returns-in-Unknown c = search measuring
