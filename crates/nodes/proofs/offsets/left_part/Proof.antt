-- `nodes::offsets::left_part` meets its contract. Assumes nothing.
use native.Mathlib.Omega.{arith}
use Rattle.nodes.specs.Laws.Opens.{term_index}
use Rattle.nodes.specs.Laws.Inside.{inside_room}
use Rattle.nodes.proofs.offsets.left_part.Statement.{statement}
use Rattle.nodes.proofs.offsets.left_part.Tie as tie

pub left_part_spec : {M : Type 1} → statement M
left_part_spec =
    tie.close
    (tie.spec
    (λ c κs. search inside_room)
    (λ c. omega (arith, term_index _ _ c.before.before.before.requires))
    (λ c. search inside_room)
    (λ c. omega (arith, term_index _ _ c.before.before.before.requires))
    (λ c. search inside_room))
