use Rattle.resolution.proofs.Admitted.{among}
use Rattle.resolution.proofs.scope.is_in.Goals as goal

pub returns-in-Some : goal.returns-in-Some
returns-in-Some c = search among

pub returns-in-None : goal.returns-in-None
returns-in-None c = search among
