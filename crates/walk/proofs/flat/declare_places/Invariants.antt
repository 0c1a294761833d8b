use Rattle.walk.proofs.Declarations.{NodesOn}
use Rattle.walk.proofs.flat.declare_places.Given as goal

abbrev pub invariant-loop-i : goal.invariant-loop-i
invariant-loop-i l = NodesOn l.s l.initial.table l.initial.so_far l.i l.table l.so_far
