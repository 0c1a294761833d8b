-- Each reader's answer has the number of the record that it reads.
use Rattle.std.proofs.Common.{rules}
use Rattle.names.specs.Laws.Readers.{refusal_numbers}
use Rattle.offence.proofs.find.number_of.Goals as goal
use Rattle.offence.proofs.find.number_of.Goals.{in-Schema, in-Condition, in-Targets, in-Path}

pub returns : goal.returns
returns c = elim c.match-kind.branch [
  | in-Schema w ↦ search (rules, refusal_numbers)
  | in-Condition w ↦ search (rules, refusal_numbers)
  | in-Targets w ↦ search (rules, refusal_numbers)
  | in-Path w ↦ search (rules, refusal_numbers)
]
