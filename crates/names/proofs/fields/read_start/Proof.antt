-- `names::fields::read_start` meets its contract. Assumes nothing.
use borrow.Author.Rules.{rules}
use Rattle.names.specs.Laws.Records.{too_long, not_long}
use Rattle.names.proofs.fields.read_start.Statement.{statement}
use Rattle.names.proofs.fields.read_start.Tie as tie

ruleset steps = (rules, too_long, not_long)

pub read_start_spec : {M : Type 1} → statement M
read_start_spec = tie.close (tie.spec (λ c. search steps) (λ c κs. search steps) (λ c. search steps))
