use Rattle.std.proofs.Common.{◌-◌}
use Rattle.names.specs.Fields.{string_of, counted}
use Rattle.names.specs.Names.{path_name}
use Rattle.names.specs.Read.{ending}
use Rattle.schema.specs.Schema.{ascending}
use Rattle.schema.proofs.Passing.{Passing}
use Rattle.schema.proofs.past.past_names.Given as goal

abbrev pub invariant-loop : goal.invariant-loop
invariant-loop l = Passing (string_of path_name) l.s (ending (counted (ascending path_name) l.s l.start)) (l.end - l.counter) l.at
