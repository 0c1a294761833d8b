-- `steps::list::append_to` meets its contract. Assumes nothing.
use Rattle.steps.proofs.Between.{appending_to}
use Rattle.steps.proofs.list.append_to.Goals as goal

pub returns-in-Err : goal.returns-in-Err
returns-in-Err c = search appending_to

pub returns-then-list-at-gt254 : goal.returns-then-list-at-gt254
returns-then-list-at-gt254 c = search appending_to

pub returns-then-end-new-gt32768 : goal.returns-then-end-new-gt32768
returns-then-end-new-gt32768 c = search appending_to

pub returns-then-list-end : goal.returns-then-list-end
returns-then-list-end c = search appending_to

pub returns : goal.returns
returns c = search appending_to
