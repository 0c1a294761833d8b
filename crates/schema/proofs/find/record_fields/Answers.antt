-- `schema::find::record_fields` meets its contract. Assumes nothing.
use Rattle.schema.proofs.TypeViews.{record_fields}
use Rattle.schema.proofs.find.record_fields.Goals as goal

pub returns-in-Record : goal.returns-in-Record
returns-in-Record c = search record_fields

pub returns-in_default : goal.returns-in_default
returns-in_default c = search record_fields
