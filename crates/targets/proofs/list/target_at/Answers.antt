-- `targets::list::target_at` meets its contract: the target looked for is as far on as targets are still to pass. Assumes nothing.
use Rattle.targets.proofs.Accepted.{positions}
use Rattle.targets.proofs.list.target_at.Goals as goal

pub returns-then-count-position : goal.returns-then-count-position
returns-then-count-position c = search positions

pub next_target-at-requires : goal.next_target-at-requires
next_target-at-requires c = search positions

pub loop-preserved : goal.loop-preserved
loop-preserved c = search positions

pub returns : goal.returns
returns c = search positions
