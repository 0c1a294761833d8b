-- `resolution::all::over_types` meets its contract. Assumes nothing.
use Rattle.resolution.proofs.Admitted.{alongside}
use Rattle.resolution.proofs.AllTypes.{passing}
use Rattle.resolution.proofs.all.over_types.Goals as goal

ruleset steps = (passing, alongside)

pub loop-p-init : goal.loop-p-init
loop-p-init c = search steps

pub returns-clause-result_value : goal.returns-clause-result_value
returns-clause-result_value c = search steps

pub loop-p-smaller : goal.loop-p-smaller
loop-p-smaller c = search steps

pub loop-p-preserved : goal.loop-p-preserved
loop-p-preserved c = search steps

pub returns-in_default-entity_here-clause-result_value : goal.returns-in_default-entity_here-clause-result_value
returns-in_default-entity_here-clause-result_value c = search steps
