use Rattle.std.proofs.Common.{◌≡◌, length}
use Rattle.condition.specs.Places.{record_in}
use Rattle.walk.specs.Enclosing.{binding_in}
use Rattle.reports.specs.Sink.{sink, append_all}
use Rattle.sums.specs.Sums.{breaches}
use Rattle.sums.proofs.Visiting.{PlacesLeft}
use Rattle.sums.proofs.run.in_places.Given as goal

-- what is left of the reached conditions, reported, makes the whole
abbrev pub invariant-loop-node : goal.invariant-loop-node
invariant-loop-node l =
    (length l.buf ≡ length l.initial.buf) × PlacesLeft (binding_in l.binding) l.condition.bytes.now (append_all (sink l.initial.buf l.initial.now) (breaches (binding_in l.binding) (record_in l.condition.bytes.now))) (sink l.buf l.now) l.node
