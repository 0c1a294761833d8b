-- `resolution::entity::resolve_one` meets its contract. Assumes nothing.
use Rattle.resolution.proofs.OneType.{own}
use Rattle.resolution.proofs.entity.resolve_one.Goals as goal

pub returns-in-Ok-clause-result_value : goal.returns-in-Ok-clause-result_value
returns-in-Ok-clause-result_value c = search own

pub returns-in-Err-HeadMissing-clause-result_value : goal.returns-in-Err-HeadMissing-clause-result_value
returns-in-Err-HeadMissing-clause-result_value c = search own

pub returns-in-Err-HeadMissing-clause-small_end : goal.returns-in-Err-HeadMissing-clause-small_end
returns-in-Err-HeadMissing-clause-small_end c = search own

pub returns-in-Err-NestedMissing-clause-result_value : goal.returns-in-Err-NestedMissing-clause-result_value
returns-in-Err-NestedMissing-clause-result_value c = search own

pub returns-in-Err-NonRecord-clause-result_value : goal.returns-in-Err-NonRecord-clause-result_value
returns-in-Err-NonRecord-clause-result_value c = search own
