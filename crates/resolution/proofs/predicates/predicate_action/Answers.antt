-- `resolution::predicates::predicate_action` meets its contract. Assumes nothing.
use Rattle.resolution.proofs.Namespaces.{named_action}
use Rattle.resolution.proofs.predicates.predicate_action.Goals as goal

pub returns : goal.returns
returns c = search named_action
