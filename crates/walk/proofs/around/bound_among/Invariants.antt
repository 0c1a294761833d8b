use Rattle.walk.proofs.Lookups.{Among}
use Rattle.std.proofs.Common.{◌-◌}
use Rattle.walk.proofs.around.bound_among.Given as goal

abbrev pub invariant-loop : goal.invariant-loop
invariant-loop l = Among l.s l.start l.name (l.end - l.counter) l.at l.found
