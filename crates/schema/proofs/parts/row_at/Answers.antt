-- `schema::parts::row_at` meets its contract. Assumes nothing.
use Rattle.schema.proofs.Views.{name_rows}
use Rattle.schema.proofs.parts.row_at.Goals as goal

pub count_at-count-requires : goal.count_at-count-requires
count_at-count-requires c = search name_rows

pub returns : goal.returns
returns c = search name_rows
