-- What is left of the two is in the order of the wholes.
use Rattle.std.proofs.Common.{◌≡◌, ◌*◌, drop}
use Rattle.names.specs.Names.{order}
use Rattle.names.proofs.bytewise.compare.Given as goal

abbrev pub invariant-loop-i : goal.invariant-loop-i
invariant-loop-i l = order (drop (8 * l.i) l.a) (drop (8 * l.i) l.b) ≡ order l.a l.b
