use Rattle.terms.proofs.Under.{paths}
use Rattle.terms.proofs.term.context_field_type.Goals as goal

pub returns-in_err-p : goal.returns-in_err-p
returns-in_err-p c = search paths
