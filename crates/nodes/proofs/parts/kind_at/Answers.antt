-- `nodes::parts::kind_at` meets its contract. Assumes nothing.
use Rattle.nodes.specs.Laws.Opens.{opening}
use Rattle.nodes.proofs.parts.kind_at.Goals as goal

pub bounds-s-at : goal.bounds-s-at
bounds-s-at c = search opening

pub returns-in-SigilRef : goal.returns-in-SigilRef
returns-in-SigilRef c = search opening

pub returns-in_default : goal.returns-in_default
returns-in_default c = search opening
