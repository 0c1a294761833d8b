-- `lookup::entry::lookup` meets its contract. Assumes nothing.
use Rattle.lookup.proofs.Runs.{reading}
use Rattle.lookup.proofs.entry.lookup.Goals as goal

pub returns-in-Err : goal.returns-in-Err
returns-in-Err c = search reading

pub returns-in-Err-read_targets : goal.returns-in-Err-read_targets
returns-in-Err-read_targets c = search reading

pub returns-in-Err-read_path : goal.returns-in-Err-read_path
returns-in-Err-read_path c = search reading

pub returns : goal.returns
returns c = search reading

pub invariant_of-records : goal.invariant_of-records
invariant_of-records c = search reading

pub invariant_of-records-2 : goal.invariant_of-records-2
invariant_of-records-2 c = search reading

pub invariant_of-records-3 : goal.invariant_of-records-3
invariant_of-records-3 c = search reading
