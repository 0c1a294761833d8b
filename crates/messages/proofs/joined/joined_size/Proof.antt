-- `messages::joined::joined_size` meets its contract. Assumes nothing.
use native.Mathlib.Omega.{arith}
use Rattle.nodes.specs.Laws.Pieces.{segments_index}
use Rattle.messages.specs.Laws.Segments.{measuring}
use Rattle.messages.proofs.joined.joined_size.Statement.{statement}
use Rattle.messages.proofs.joined.joined_size.Tie as tie

pub joined_size_spec : {M : Type 1} → statement M
joined_size_spec =
    tie.close
    (tie.spec
    (λ c. omega (arith, segments_index _ _ c.before.requires.0))
    (λ c. search measuring)
    (λ c κs. search measuring)
    (λ c κs. search measuring)
    (λ c. search measuring)
    (λ c. search measuring)
    (λ c. search measuring)
    (λ c κs. search measuring)
    (λ c. search measuring))
