use Rattle.walk.proofs.Declarations.{BindersOn}
use Rattle.std.proofs.Common.{◌-◌}
use Rattle.walk.proofs.flat.declare_all.Given as goal

abbrev pub invariant-loop : goal.invariant-loop
invariant-loop l = BindersOn l.s l.start l.initial.table l.initial.so_far (l.end - l.counter) l.at l.table l.so_far
