use Rattle.resolution.proofs.Admitted.{nearby}
use Rattle.resolution.proofs.scope.next_admitted.Goals as goal

pub next_near-requires : goal.next_near-requires
next_near-requires c = search nearby
