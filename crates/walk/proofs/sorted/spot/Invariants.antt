use Rattle.std.proofs.Common.{◌-◌}
use Rattle.walk.proofs.Spots.{Between}
use Rattle.walk.proofs.sorted.spot.Given as goal

-- those before `low` are below the name, those from `high` on above it
abbrev pub invariant-loop-low : goal.invariant-loop-low
invariant-loop-low l = Between l.s l.table l.name l.low l.high

abbrev pub decreases-loop-low : goal.decreases-loop-low
decreases-loop-low l = l.high - l.low
