use Rattle.names.specs.Fields.{many}
use Rattle.names.specs.Read.{ending, earlier}
use Rattle.schema.specs.Schema.{entity_type}
use Rattle.std.proofs.Common.{◌≡◌, ◌-◌}
use mathlib.Core.Option.{none}
use mathlib.Core.Path.{◌≡◌}
use Rattle.schema.proofs.read.read_entities.Given as goal

abbrev pub invariant-loop : goal.invariant-loop
invariant-loop l = ending (many (λ e. e.name) entity_type l.end none l.s l.initial.at) ≡ ending (many (λ e. e.name) entity_type (l.end - l.counter) (earlier l.s l.before) l.s l.at)
