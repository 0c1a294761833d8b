-- `names::simple::has_no_colon` meets its contract. Assumes nothing.
use borrow.Author.Rules.{rules}
use Rattle.names.specs.Laws.Colons.{passed}
use Rattle.names.proofs.simple.has_no_colon.Statement.{statement}
use Rattle.names.proofs.simple.has_no_colon.Tie as tie

ruleset steps = (rules, passed)

pub has_no_colon_spec : {M : Type 1} → statement M
has_no_colon_spec =
    tie.close
    (tie.spec
    (λ c. search steps)
    (λ c. search steps)
    (λ c. search steps)
    (λ c. search steps)
    (λ c. search steps)
    (λ c. search steps)
    (λ c. search steps)
    (λ c. search steps)
    (λ c. search steps)
    (λ c. search steps)
    (λ c. search steps)
    (λ c. search steps)
    (λ c. search steps)
    (λ c. search steps)
    (λ c. search steps)
    (λ c. search steps))
