-- `lookup::place::put_strings` meets its contract. Assumes nothing.
use Rattle.lookup.proofs.Outputs.{putting}
use Rattle.lookup.proofs.place.put_strings.Goals as goal

pub put_type-requires-clause-t_in_bounds : goal.put_type-requires-clause-t_in_bounds
put_type-requires-clause-t_in_bounds c = search putting

pub put_word-requires : goal.put_word-requires
put_word-requires c = search putting

pub returns-in-Resolved : goal.returns-in-Resolved
returns-in-Resolved c = search putting

pub returns-in-NonRecord : goal.returns-in-NonRecord
returns-in-NonRecord c = search putting

pub returns-in-Unknown : goal.returns-in-Unknown
returns-in-Unknown c = search putting
