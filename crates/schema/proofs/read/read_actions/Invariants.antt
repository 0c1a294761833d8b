use Rattle.names.specs.Fields.{many}
use Rattle.names.specs.Read.{ending}
use Rattle.schema.specs.Places.{earlier_key}
use Rattle.schema.specs.Schema.{action, key_of}
use Rattle.std.proofs.Common.{◌≡◌, ◌-◌}
use mathlib.Core.Option.{none}
use mathlib.Core.Path.{◌≡◌}
use Rattle.schema.proofs.read.read_actions.Given as goal

abbrev pub invariant-loop : goal.invariant-loop
invariant-loop l = ending (many key_of action l.end none l.s l.initial.at) ≡ ending (many key_of action (l.end - l.counter) (earlier_key l.s l.before) l.s l.at)
