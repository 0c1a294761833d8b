-- What is left of the two is the same just where the wholes are.
use Rattle.std.proofs.Common.{◌≡◌, ◌*◌, drop}
use Rattle.names.specs.Names.{same}
use Rattle.names.proofs.bytewise.same.Given as goal

abbrev pub invariant-loop-i : goal.invariant-loop-i
invariant-loop-i l = same (drop (8 * l.i) l.a) (drop (8 * l.i) l.b) ≡ same l.a l.b
