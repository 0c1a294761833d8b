-- `walk::either::bound_by` meets its contract. Assumes nothing.
use borrow.Author.Rules.{rules}
use Rattle.walk.specs.Laws.Names.{flat_table, own_table, flat_bound, own_bound}
use Rattle.walk.proofs.either.bound_by.Statement.{statement}
use Rattle.walk.proofs.either.bound_by.Tie as tie

ruleset steps = (rules, flat_table, own_table, flat_bound, own_bound)

pub bound_by_spec : {M : Type 1} → statement M
bound_by_spec =
    tie.close
    (tie.spec
    (λ c. search steps)
    (λ c κs. search steps)
    (λ c. search steps)
    (λ c κs. (search steps, search steps))
    (λ c. search steps)
    (λ c. search steps))
