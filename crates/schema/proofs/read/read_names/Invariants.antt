use Rattle.names.specs.Fields.{many, counted}
use Rattle.names.specs.Names.{path_name}
use Rattle.names.specs.Read.{ending, earlier}
use Rattle.schema.specs.Schema.{ascending}
use Rattle.std.proofs.Common.{◌≡◌, ◌-◌}
use mathlib.Core.Path.{◌≡◌}
use Rattle.schema.proofs.read.read_names.Given as goal

abbrev pub invariant-loop : goal.invariant-loop
invariant-loop l = ending (counted (ascending path_name) l.s l.start) ≡ ending (many (λ w. w) (ascending path_name) (l.end - l.counter) (earlier l.s l.before) l.s l.at)
