-- `walk::around::bound_around` meets its contract. What is around the row is what is left to be asked. Assumes nothing.
use Rattle.walk.proofs.Lookups.{Outward, outward}
use Rattle.walk.proofs.around.bound_around.Statement.{statement}
use Rattle.walk.proofs.around.bound_around.Tie as tie

abbrev invariant-loop-node : tie.invariant-loop-node
invariant-loop-node s table node name row₀ row = Outward s table name node row

abbrev decreases-loop-node : tie.decreases-loop-node
decreases-loop-node s table node name row₀ row = row

pub bound_around_spec : {M : Type 1} → statement M
bound_around_spec =
    tie.close
    (tie.spec
    invariant-loop-node
    decreases-loop-node
    (λ c. search outward)
    (λ c. search outward)
    (λ c. search outward)
    (λ c. search outward)
    (λ c κs. search outward)
    (λ c. search outward)
    (λ c κs. search outward)
    (λ c κs. search outward)
    (λ c. search outward)
    (λ c. search outward)
    (λ c. search outward)
    (λ c. search outward)
    (λ c κs. search outward)
    (λ c. search outward)
    (λ c. search outward))
