use Rattle.std.proofs.Common.{◌-◌}
use Rattle.schema.specs.Find.{find_attribute}
use Rattle.schema.specs.Places.{fields_in}
use Rattle.schema.proofs.Fields.{Left}
use Rattle.schema.proofs.find.attribute.Given as goal

abbrev pub invariant-loop : goal.invariant-loop
invariant-loop l = Left l.s l.name (find_attribute (fields_in l.s l.start) l.name) (l.end - l.counter) l.at
