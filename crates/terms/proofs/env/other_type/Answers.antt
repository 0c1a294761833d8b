-- `terms::env::other_type` meets its contract. Assumes nothing.
use Rattle.terms.proofs.Fields.{other_types}
use Rattle.terms.proofs.env.other_type.Goals as goal

pub returns-in_default : goal.returns-in_default
returns-in_default c = search other_types

pub returns : goal.returns
returns c = search other_types
