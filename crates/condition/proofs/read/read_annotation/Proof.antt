-- `condition::read::read_annotation` meets its contract. Assumes nothing.
use Rattle.condition.proofs.Leaves.{leaves}
use Rattle.condition.proofs.read.read_annotation.Statement.{statement}
use Rattle.condition.proofs.read.read_annotation.Tie as tie

pub read_annotation_spec : {M : Type 1} → statement M
read_annotation_spec = tie.close (tie.spec (λ c κs. search leaves) (λ c. search leaves))
