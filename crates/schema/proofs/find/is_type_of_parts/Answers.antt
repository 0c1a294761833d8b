-- `schema::find::is_type_of_parts` meets its contract. Assumes nothing.
use Rattle.schema.proofs.TypeNames.{parts_left}
use Rattle.schema.proofs.find.is_type_of_parts.Goals as goal

pub loop-init : goal.loop-init
loop-init c = search parts_left

pub returns-in_default : goal.returns-in_default
returns-in_default c = search parts_left

pub past_word-at-requires : goal.past_word-at-requires
past_word-at-requires c = search parts_left

pub loop-preserved : goal.loop-preserved
loop-preserved c = search parts_left

pub returns : goal.returns
returns c = search parts_left
