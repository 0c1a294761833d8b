use Rattle.resolution.proofs.Namespaces.{NamesLeft}
use Rattle.std.proofs.Common.{◌+◌, ◌-◌, ◌≤◌}
use Rattle.names.specs.Fields.{string_of}
use Rattle.names.specs.Names.{path_name, last_of}
use Rattle.names.specs.Read.{row_in}
use Rattle.resolution.proofs.predicates.last_name.Given as goal

abbrev pub invariant-loop : goal.invariant-loop
invariant-loop l = (l.counter ≤ l.path.row.count) × NamesLeft l.path.bytes.now (last_of (row_in (string_of path_name) l.path.bytes.now l.path.row.count l.path.row.at)) (l.path.row.count + 1 - l.counter) l.at
