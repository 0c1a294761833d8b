use Rattle.resolution.specs.Laws.Segments.{along}
use Rattle.resolution.proofs.along.resolve_in.Goals as goal

pub returns-in_default-clause-result_value : goal.returns-in_default-clause-result_value
returns-in_default-clause-result_value c = search along

pub loop-init : goal.loop-init
loop-init c = search along

pub record_fields-requires : goal.record_fields-requires
record_fields-requires c = search along

pub returns-in_default-record_fields-clause-result_value :
    goal.returns-in_default-record_fields-clause-result_value
returns-in_default-record_fields-clause-result_value c = search along

pub returns-in_default-attribute-clause-result_value :
    goal.returns-in_default-attribute-clause-result_value
returns-in_default-attribute-clause-result_value c = search along

pub past_word-at-requires : goal.past_word-at-requires
past_word-at-requires c = search along

pub loop-preserved : goal.loop-preserved
loop-preserved c = search along

pub rich_type-requires : goal.rich_type-requires
rich_type-requires c = search along

pub returns-clause-result_value : goal.returns-clause-result_value
returns-clause-result_value c = search along

pub returns-clause-small_resolution : goal.returns-clause-small_resolution
returns-clause-small_resolution c = search along
