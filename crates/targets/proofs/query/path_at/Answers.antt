-- `targets::query::path_at` meets its contract. Assumes nothing.
use Rattle.targets.proofs.Asked.{query}
use Rattle.targets.proofs.query.path_at.Goals as goal

pub returns : goal.returns
returns c = search query
