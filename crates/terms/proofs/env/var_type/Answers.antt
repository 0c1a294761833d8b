-- `terms::env::var_type` meets its contract. Assumes nothing.
use Rattle.terms.proofs.Under.{bindings}
use Rattle.terms.proofs.env.var_type.Goals as goal

pub returns-in-Segments : goal.returns-in-Segments
returns-in-Segments c = search bindings

pub returns-in-Timepoint : goal.returns-in-Timepoint
returns-in-Timepoint c = search bindings

pub returns-in-Nothing : goal.returns-in-Nothing
returns-in-Nothing c = search bindings
