-- `steps::positions::first_pending` meets its contract. Assumes nothing.
use Rattle.steps.proofs.Search.{searching}
use Rattle.steps.proofs.positions.first_pending.Goals as goal

pub returns-then-state-from-eq-PENDING : goal.returns-then-state-from-eq-PENDING
returns-then-state-from-eq-PENDING c = search searching

pub next_target-at-requires : goal.next_target-at-requires
next_target-at-requires c = search searching

pub loop-position-preserved : goal.loop-position-preserved
loop-position-preserved c = search searching

pub returns : goal.returns
returns c = search searching
