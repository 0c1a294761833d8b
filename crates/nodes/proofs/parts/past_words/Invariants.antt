use Rattle.names.specs.Read.{ending, row}
use Rattle.nodes.proofs.Strings.{StringsPast}
use Rattle.nodes.specs.Parts.{any_string}
use Rattle.std.proofs.Common.{◌-◌}
use Rattle.nodes.proofs.parts.past_words.Given as goal

abbrev pub invariant-loop : goal.invariant-loop
invariant-loop l = StringsPast l.s (ending (row any_string l.fn.words.count l.s l.fn.words.first)) (l.fn.words.count - l.counter) l.at
