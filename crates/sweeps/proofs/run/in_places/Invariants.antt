use Rattle.std.proofs.Common.{◌≡◌, length}
use Rattle.std.specs.Int.NonZero.{non_zero_u64_get}
use Rattle.condition.specs.Places.{record_in}
use Rattle.reports.specs.Kept.{fold}
use Rattle.reports.specs.Sink.{sink}
use Rattle.sweeps.specs.Windows.{entries}
use Rattle.sweeps.specs.Entering.{enter}
use Rattle.sweeps.proofs.Running.{PlacesLeft}
use Rattle.sweeps.proofs.run.in_places.Given as goal

-- what is left of the reached conditions, listed, makes the whole
abbrev pub invariant-loop-i : goal.invariant-loop-i
invariant-loop-i l =
    (length l.out ≡ length l.initial.out) × PlacesLeft l.s (non_zero_u64_get l.period) (fold enter (sink l.initial.out l.initial.now) (entries (non_zero_u64_get l.period) (record_in l.s))) (sink l.out l.now) l.i
