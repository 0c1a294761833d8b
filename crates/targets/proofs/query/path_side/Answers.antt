-- `targets::query::path_side` meets its contract. Assumes nothing.
use Rattle.targets.proofs.Asked.{query}
use Rattle.targets.proofs.query.path_side.Goals as goal

pub returns-in-Some : goal.returns-in-Some
returns-in-Some c = search query

pub returns-in-None : goal.returns-in-None
returns-in-None c = search query

pub returns-in-None-2 : goal.returns-in-None-2
returns-in-None-2 c = search query
