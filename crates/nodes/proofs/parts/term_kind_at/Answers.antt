-- `nodes::parts::term_kind_at` meets its contract. Assumes nothing.
use Rattle.nodes.specs.Laws.Opens.{opening}
use Rattle.nodes.proofs.parts.term_kind_at.Goals as goal

pub bounds-s-at : goal.bounds-s-at
bounds-s-at c = search opening

pub returns : goal.returns
returns c = search opening
