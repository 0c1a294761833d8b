-- `targets::list::id_of` meets its contract. Assumes nothing.
use Rattle.targets.proofs.Accepted.{fields}
use Rattle.targets.proofs.list.id_of.Statement.{statement}
use Rattle.targets.proofs.list.id_of.Tie as tie

pub id_of_spec : {M : Type 1} → statement M
id_of_spec = tie.close (tie.spec (λ c κs. search fields) (λ c. search fields))
