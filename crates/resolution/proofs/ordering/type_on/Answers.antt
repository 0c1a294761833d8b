use Rattle.schema.specs.Laws.Nearby.{near_word}
use Rattle.resolution.proofs.Rendered.{typing}
use Rattle.resolution.proofs.ordering.type_on.Goals as goal

pub returns-in_err-at-clause-result_value : goal.returns-in_err-at-clause-result_value
returns-in_err-at-clause-result_value c = search (typing, near_word)

pub returns-clause-result_value : goal.returns-clause-result_value
returns-clause-result_value c = search (typing, near_word)
