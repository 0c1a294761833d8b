use Rattle.std.proofs.Common.{◌≡◌, ◌-◌, length}
use Rattle.condition.specs.Places.{arguments_in}
use Rattle.walk.specs.Enclosing.{binding_in}
use Rattle.reports.specs.Sink.{sink, append_all}
use Rattle.sums.specs.Summands.{binders_at}
use Rattle.sums.specs.Sums.{arguments_breaches}
use Rattle.sums.proofs.Visiting.{ArgumentsLeft}
use Rattle.sums.proofs.terms.in_arguments.Given as goal

-- what is left of the arguments, reported, makes the whole
abbrev pub invariant-loop-done : goal.invariant-loop-done
invariant-loop-done l =
    (length l.buf ≡ length l.initial.buf) × ArgumentsLeft (binding_in l.place.binding) (binders_at l.place) l.place.condition.bytes.now (append_all (sink l.initial.buf l.initial.now) (arguments_breaches (binding_in l.place.binding) (binders_at l.place) (arguments_in l.place.condition.bytes.now l.arguments.count l.arguments.first))) (sink l.buf l.now) (l.arguments.count - l.done) l.at
