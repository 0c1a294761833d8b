-- `nodes::parts::argument_at` meets its contract. Assumes nothing.
use Rattle.nodes.specs.Laws.Pieces.{arguments_parts}
use Rattle.nodes.proofs.parts.argument_at.Goals as goal

pub returns : goal.returns
returns c = search arguments_parts
