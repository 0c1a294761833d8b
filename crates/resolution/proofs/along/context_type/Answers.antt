-- `resolution::along::context_type` meets its contract. Assumes nothing.
use Rattle.resolution.specs.Laws.Segments.{ends}
use Rattle.resolution.proofs.along.context_type.Goals as goal

pub returns-clause-result_value : goal.returns-clause-result_value
returns-clause-result_value c = search ends
