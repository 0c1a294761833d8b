use Rattle.resolution.proofs.Rendered.{closing}
use Rattle.resolution.proofs.ordering.closer.Goals as goal

pub returns-in_default-clause-result_value : goal.returns-in_default-clause-result_value
returns-in_default-clause-result_value c = search closing

pub returns-then-is_under-clause-result_value : goal.returns-then-is_under-clause-result_value
returns-then-is_under-clause-result_value c = search closing

pub returns-clause-result_value : goal.returns-clause-result_value
returns-clause-result_value c = search closing
