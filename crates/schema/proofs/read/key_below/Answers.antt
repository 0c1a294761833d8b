-- `schema::read::key_below` meets its contract. Assumes nothing.
use Rattle.schema.proofs.Rows.{keys}
use Rattle.schema.proofs.read.key_below.Goals as goal

pub returns-then-is_below : goal.returns-then-is_below
returns-then-is_below c = search keys

pub returns-then-same : goal.returns-then-same
returns-then-same c = search keys

pub returns : goal.returns
returns c = search keys
