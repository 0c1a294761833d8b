use Rattle.std.proofs.Common.{◌≤◌, ◌-◌, length}
use Rattle.names.specs.Fields.{string_of}
use Rattle.names.specs.Names.{same, path_name, joined}
use Rattle.names.specs.Read.{row_in}
use Rattle.schema.specs.Find.{action_type}
use Rattle.schema.proofs.TypeNames.{PartsLeft}
use Rattle.schema.proofs.find.is_type_of_parts.Given as goal

abbrev pub invariant-loop : goal.invariant-loop
invariant-loop l = (l.from ≤ length l.t) × PartsLeft l.t l.parts.bytes.now (same l.t (action_type (joined (row_in (string_of path_name) l.parts.bytes.now l.end l.initial.at)))) (l.end - l.counter) l.at l.from
