use Rattle.terms.specs.Laws.Known.{known_actions}
use Rattle.rules.proofs.predicate.applied_at.Goals as goal

pub predicate_action-action-requires : goal.predicate_action-action-requires
predicate_action-action-requires c = search known_actions
