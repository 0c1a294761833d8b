-- `resolution::listing::failing_from` meets its contract. Assumes nothing.
use Rattle.resolution.specs.Laws.Failing.{failing_pass}
use Rattle.resolution.proofs.Admitted.{alongside}
use Rattle.resolution.proofs.listing.failing_from.Goals as goal

ruleset steps = (failing_pass, alongside)

pub loop-p-init : goal.loop-p-init
loop-p-init c = search steps

pub loop-p-smaller : goal.loop-p-smaller
loop-p-smaller c = search steps

pub loop-p-preserved : goal.loop-p-preserved
loop-p-preserved c = search steps

pub returns-then-fails_at : goal.returns-then-fails_at
returns-then-fails_at c = search steps

pub returns : goal.returns
returns c = search steps
