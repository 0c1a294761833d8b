-- `nodes::parts::aggregate_span_at` meets its contract. Assumes nothing.
use Rattle.nodes.specs.Laws.Pieces.{pieces}
use Rattle.nodes.proofs.parts.aggregate_span_at.Goals as goal

pub returns : goal.returns
returns c = search pieces
