-- `nodes::parts::slot_at` meets its contract. Assumes nothing.
use Rattle.nodes.specs.Laws.Pieces.{pieces}
use Rattle.nodes.proofs.parts.slot_at.Goals as goal

pub bounds-s-at : goal.bounds-s-at
bounds-s-at c = search pieces

pub overflow_add-result : goal.overflow_add-result
overflow_add-result c = search pieces

pub returns-in-0 : goal.returns-in-0
returns-in-0 c = search pieces

pub returns-in-1 : goal.returns-in-1
returns-in-1 c = search pieces

pub returns-in_default : goal.returns-in_default
returns-in_default c = search pieces
