-- `resolution::predicates::namespace_of` meets its contract. Assumes nothing.
use Rattle.resolution.proofs.Namespaces.{namespaces}
use Rattle.resolution.proofs.predicates.namespace_of.Goals as goal

pub returns-then-count-lt1 : goal.returns-then-count-lt1
returns-then-count-lt1 c = search namespaces

pub returns-then-same : goal.returns-then-same
returns-then-same c = search namespaces

pub returns : goal.returns
returns c = search namespaces
