-- `resolution::along::context_path` meets its contract. Assumes nothing.
use Rattle.resolution.specs.Laws.Segments.{contexts}
use Rattle.resolution.proofs.along.context_path.Goals as goal

pub returns-in_default-clause-result_value : goal.returns-in_default-clause-result_value
returns-in_default-clause-result_value c = search contexts

pub returns-in_default-record_fields-clause-result_value : goal.returns-in_default-record_fields-clause-result_value
returns-in_default-record_fields-clause-result_value c = search contexts

pub resolve_in-requires : goal.resolve_in-requires
resolve_in-requires c = search contexts

pub returns-clause-result_value : goal.returns-clause-result_value
returns-clause-result_value c = search contexts
