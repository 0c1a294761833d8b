-- `resolution::scope::admits` meets its contract. Assumes nothing.
use Rattle.resolution.proofs.Admitted.{nearby}
use Rattle.resolution.proofs.scope.admits.Goals as goal

pub nearer-near-requires : goal.nearer-near-requires
nearer-near-requires c = search nearby
