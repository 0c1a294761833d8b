-- `names::fields::read_end` meets its contract. Assumes nothing.
use borrow.Author.Rules.{rules}
use Rattle.names.specs.Laws.Readers.{finished_here, finished_not}
use Rattle.names.proofs.fields.read_end.Statement.{statement}
use Rattle.names.proofs.fields.read_end.Tie as tie

ruleset steps = (rules, finished_here, finished_not)

pub read_end_spec : {M : Type 1} → statement M
read_end_spec = tie.close (tie.spec (λ c. search steps) (λ c. search steps))
