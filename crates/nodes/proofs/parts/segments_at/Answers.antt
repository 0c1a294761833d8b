-- `nodes::parts::segments_at` meets its contract. Assumes nothing.
use Rattle.nodes.specs.Laws.Pieces.{segments_listed}
use Rattle.nodes.proofs.parts.segments_at.Goals as goal

pub returns : goal.returns
returns c = rw c.list_at.ensures.first (segments_listed _ _ c.requires _ c.list_at.ensures.count)
