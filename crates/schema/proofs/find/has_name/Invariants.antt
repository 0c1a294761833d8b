use Rattle.std.proofs.Common.{◌-◌}
use Rattle.names.specs.Fields.{string_of}
use Rattle.names.specs.Lists.{any_of}
use Rattle.names.specs.Names.{same, path_name}
use Rattle.names.specs.Read.{row_in}
use Rattle.schema.proofs.Among.{Among}
use Rattle.schema.proofs.find.has_name.Given as goal

abbrev pub invariant-loop : goal.invariant-loop
invariant-loop l = Among l.s l.name (any_of (λ a. same a l.name) (row_in (string_of path_name) l.s l.end l.initial.at)) (l.end - l.counter) l.at
