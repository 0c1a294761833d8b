-- `nodes::parts::is_named` meets its contract. Assumes nothing.
use Rattle.nodes.specs.Laws.Binders.{naming}
use Rattle.nodes.proofs.parts.is_named.Goals as goal

pub bounds-s-at : goal.bounds-s-at
bounds-s-at c = search naming

pub returns : goal.returns
returns c = search naming
