-- `resolution::ordering::rendering_from` meets its contract. Assumes nothing.
use Rattle.resolution.proofs.Admitted.{alongside}
use Rattle.resolution.proofs.Rendered.{picking}
use Rattle.resolution.proofs.ordering.rendering_from.Goals as goal

ruleset steps = (picking, alongside)

pub loop-p-init : goal.loop-p-init
loop-p-init c = search steps

pub loop-p-smaller : goal.loop-p-smaller
loop-p-smaller c = search steps

pub loop-p-preserved : goal.loop-p-preserved
loop-p-preserved c = search steps

pub returns-clause-result_value : goal.returns-clause-result_value
returns-clause-result_value c = search steps
