-- `nodes::offsets::term_part` meets its contract. Assumes nothing.
use native.Mathlib.Omega.{arith}
use Rattle.nodes.specs.Laws.Opens.{term_index}
use Rattle.nodes.specs.Laws.Inside.{inside_room}
use Rattle.nodes.proofs.offsets.term_part.Statement.{statement}
use Rattle.nodes.proofs.offsets.term_part.Tie as tie

pub term_part_spec : {M : Type 1} → statement M
term_part_spec = tie.close (tie.spec (λ c. omega (arith, term_index _ _ c.requires)) (λ c. search inside_room))
