-- `nodes::parts::past_element` meets its contract. Assumes nothing.
use Rattle.nodes.specs.Laws.Pieces.{pieces}
use Rattle.nodes.proofs.parts.past_element.Goals as goal

pub returns : goal.returns
returns c = search pieces
