-- `schema::find::ends_in_action` meets its contract. Assumes nothing.
use Rattle.schema.proofs.TypeNames.{lefts}
use Rattle.schema.proofs.find.ends_in_action.Goals as goal

pub returns : goal.returns
returns c = search lefts
