-- `targets::list::next_target` meets its contract. Assumes nothing.
use Rattle.targets.proofs.Accepted.{fields}
use Rattle.targets.proofs.list.next_target.Statement.{statement}
use Rattle.targets.proofs.list.next_target.Tie as tie

pub next_target_spec : {M : Type 1} → statement M
next_target_spec = tie.close (tie.spec (λ c κs. search fields) (λ c κs. search fields) (λ c. search fields))
