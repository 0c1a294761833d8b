use Rattle.std.proofs.Common.{◌-◌}
use mathlib.Core.Option.{none}
use Rattle.names.specs.Read.{ending}
use Rattle.schema.specs.Schema.{entity_type}
use Rattle.schema.specs.Places.{entities_at}
use Rattle.schema.proofs.Passing.{Passing}
use Rattle.schema.proofs.past.past_entities.Given as goal

abbrev pub invariant-loop : goal.invariant-loop
invariant-loop l = Passing (entity_type none) l.s (ending (entities_at l.end l.s l.initial.at)) (l.end - l.counter) l.at
