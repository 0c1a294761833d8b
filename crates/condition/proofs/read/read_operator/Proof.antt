-- `condition::read::read_operator` meets its contract. Assumes nothing.
use Rattle.condition.proofs.Choosing.{choices}
use Rattle.condition.proofs.read.read_operator.Statement.{statement}
use Rattle.condition.proofs.read.read_operator.Tie as tie

pub read_operator_spec : {M : Type 1} → statement M
read_operator_spec = tie.close (tie.spec (λ c κs. search choices) (λ c. search choices))
