use Rattle.condition.specs.Places.{term_in}
use Rattle.nodes.specs.Parts.{leaves_in}
use Rattle.reports.specs.Sink.{sink, append_all}
use Rattle.std.proofs.Common.{◌≡◌}
use Rattle.sums.proofs.Visiting.{LeavesOn}
use Rattle.sums.specs.Summands.{binders_at}
use Rattle.sums.specs.Sums.{term_breaches}
use Rattle.walk.specs.Enclosing.{binding_in}
use lib.ListN.{length}
use mathlib.Core.Path.{◌≡◌}
use Rattle.sums.proofs.terms.in_term.Given as goal

abbrev pub invariant-loop-leaf : goal.invariant-loop-leaf
invariant-loop-leaf l =
    (length l.buf ≡ length l.initial.buf) × LeavesOn (binding_in l.place.binding) (binders_at l.place) l.s (append_all (sink l.initial.buf l.initial.now) (term_breaches (binding_in l.place.binding) (binders_at l.place) (term_in l.s l.at))) (sink l.buf l.now) l.left

abbrev pub decreases-loop-leaf : goal.decreases-loop-leaf
decreases-loop-leaf l = length (leaves_in l.s l.left.count l.left.first)
