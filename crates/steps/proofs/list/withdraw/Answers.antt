-- `steps::list::withdraw` meets its contract. Assumes nothing.
use Rattle.steps.proofs.Between.{withdrawing}
use Rattle.steps.proofs.list.withdraw.Goals as goal

pub returns-in-Err : goal.returns-in-Err
returns-in-Err c = search withdrawing

pub invariant_of-count : goal.invariant_of-count
invariant_of-count c = search withdrawing

pub returns-then-count-i : goal.returns-then-count-i
returns-then-count-i c = search withdrawing

pub returns-then-state-i-ne-PENDING : goal.returns-then-state-i-ne-PENDING
returns-then-state-i-ne-PENDING c = search withdrawing

pub returns : goal.returns
returns c = search withdrawing
