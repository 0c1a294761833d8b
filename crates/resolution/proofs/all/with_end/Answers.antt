-- `resolution::all::with_end` meets its contract. Assumes nothing.
use Rattle.resolution.proofs.AllTypes.{joining}
use Rattle.resolution.proofs.all.with_end.Goals as goal

pub returns-in-Resolved : goal.returns-in-Resolved
returns-in-Resolved c = search joining

pub returns-in-Ambiguous : goal.returns-in-Ambiguous
returns-in-Ambiguous c = search joining

pub returns-in-Unknown : goal.returns-in-Unknown
returns-in-Unknown c = search joining

pub returns-in_default : goal.returns-in_default
returns-in_default c = search joining
