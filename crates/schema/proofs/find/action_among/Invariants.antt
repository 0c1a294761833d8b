use Rattle.std.proofs.Common.{◌-◌}
use Rattle.schema.specs.Find.{find_action}
use Rattle.schema.specs.Places.{schema_in, namespace_in}
use Rattle.schema.proofs.ActionRow.{Actions}
use Rattle.schema.proofs.find.action_among.Given as goal

abbrev pub invariant-loop : goal.invariant-loop
invariant-loop l = Actions l.s (namespace_in l.namespace) l.id (find_action (schema_in l.s) (namespace_in l.namespace) l.id) (l.end - l.counter) l.at
