-- `schema::find::is_type_of` meets its contract. Assumes nothing.
use Rattle.schema.proofs.TypeNames.{type_names}
use Rattle.schema.proofs.find.is_type_of.Goals as goal

pub returns-then-namespace-eq0 : goal.returns-then-namespace-eq0
returns-then-namespace-eq0 c = search type_names

pub returns-in_default : goal.returns-in_default
returns-in_default c = search type_names

pub returns : goal.returns
returns c = search type_names
