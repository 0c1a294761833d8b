-- `nodes::parts::bound_at` meets its contract. Assumes nothing.
use Rattle.nodes.specs.Laws.Binders.{at_binder}
use Rattle.nodes.proofs.parts.bound_at.Goals as goal

pub returns : goal.returns
returns c = search at_binder
