-- `nodes::parts::path_at` meets its contract. Assumes nothing.
use Rattle.nodes.specs.Laws.Pieces.{pieces, path_listed}
use Rattle.nodes.proofs.parts.path_at.Goals as goal

pub list_at-requires : goal.list_at-requires
list_at-requires c = search pieces

pub returns : goal.returns
returns c = rw c.list_at.ensures.first (path_listed _ _ c.requires _ c.list_at.ensures.count)
