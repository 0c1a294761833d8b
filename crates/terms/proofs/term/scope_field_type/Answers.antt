use Rattle.terms.proofs.Under.{paths}
use Rattle.terms.proofs.term.scope_field_type.Goals as goal

pub returns-in_err-p : goal.returns-in_err-p
returns-in_err-p c = search paths

pub returns : goal.returns
returns c = search paths
