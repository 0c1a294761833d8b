-- `nodes::offsets::aggregate_part` meets its contract. Assumes nothing.
use native.Mathlib.Omega.{arith}
use Rattle.nodes.specs.Laws.Opens.{aggregate_room}
use Rattle.nodes.specs.Laws.Inside.{inside_room}
use Rattle.nodes.proofs.offsets.aggregate_part.Statement.{statement}
use Rattle.nodes.proofs.offsets.aggregate_part.Tie as tie

pub aggregate_part_spec : {M : Type 1} → statement M
aggregate_part_spec = tie.close (tie.spec (λ c. omega (arith, aggregate_room _ _ c.requires)) (λ c. search inside_room))
