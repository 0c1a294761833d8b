-- `nodes::parts::predicate_at` meets its contract. Assumes nothing.
use Rattle.nodes.specs.Laws.Pieces.{predicates_parts}
use Rattle.nodes.proofs.parts.predicate_at.Goals as goal

pub returns : goal.returns
returns c = search predicates_parts
