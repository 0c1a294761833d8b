use Rattle.schema.specs.Places.{Serving}
use Rattle.schema.proofs.near.entity_near.Given as goal

abbrev pub invariant-loop-left : goal.invariant-loop-left
invariant-loop-left l = Serving l.s l.name (record { count = l.left; at = l.at })

abbrev pub decreases-loop-left : goal.decreases-loop-left
decreases-loop-left l = l.left
