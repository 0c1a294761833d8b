-- `targets::query::path_len` meets its contract. Assumes nothing.
use Rattle.targets.proofs.Asked.{query}
use Rattle.targets.proofs.query.path_len.Goals as goal

pub returns-in-None : goal.returns-in-None
returns-in-None c = search query

pub returns-in-Some : goal.returns-in-Some
returns-in-Some c = search query
