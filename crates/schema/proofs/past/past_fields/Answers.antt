-- `schema::past::past_fields` meets its contract. Assumes nothing.
use Rattle.schema.proofs.Passing.{Whole-Fields}
use Rattle.schema.proofs.past.past_fields.Goals as goal

pub count_at-count-requires : goal.count_at-count-requires
count_at-count-requires c = search Whole-Fields

pub past_attributes-requires : goal.past_attributes-requires
past_attributes-requires c = search Whole-Fields

pub returns : goal.returns
returns c = search Whole-Fields
