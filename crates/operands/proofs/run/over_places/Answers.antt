use Rattle.operands.proofs.Asking.{by_action}
use Rattle.operands.proofs.run.over_places.Goals as goal

pub invariant_of-setting : goal.invariant_of-setting
invariant_of-setting c =
    search (by_action, c.facts_of-facts.ensures, c.names_of-k.ensures.names, c.actions.ensures)
