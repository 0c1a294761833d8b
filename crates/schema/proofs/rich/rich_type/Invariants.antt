use Rattle.std.proofs.Common.{◌≡◌, ◌≤◌, ◌-◌, true, length}
use Rattle.types.specs.Meaning.{layered}
use Rattle.schema.specs.Find.{rich_type}
use Rattle.schema.specs.Places.{type_in, is_type}
use Rattle.schema.proofs.rich.rich_type.Given as goal

abbrev pub invariant-loop-t : goal.invariant-loop-t
invariant-loop-t l = (is_type l.s l.t ≡ true) × (l.layers ≤ l.t) × (layered l.layers (rich_type (type_in l.s l.t)) ≡ rich_type (type_in l.s l.at))

abbrev pub decreases-loop-t : goal.decreases-loop-t
decreases-loop-t l = length l.s - l.t
