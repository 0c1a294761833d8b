-- `steps::list::append` meets its contract. Assumes nothing.
use Rattle.steps.proofs.Between.{appending}
use Rattle.steps.proofs.list.append.Goals as goal

pub returns-in-Err : goal.returns-in-Err
returns-in-Err c = search appending

pub append_to-requires-clause-list_value : goal.append_to-requires-clause-list_value
append_to-requires-clause-list_value c = search appending

pub returns : goal.returns
returns c = search appending
