-- What is left of the two is in the order of the wholes, and as much was taken from either.
use Rattle.std.proofs.Common.{◌≡◌, ◌+◌, length}
use Rattle.names.specs.Names.{order}
use Rattle.names.proofs.bytewise.compare_bytes.Given as goal

abbrev pub invariant-loop-x : goal.invariant-loop-x
invariant-loop-x l = record {
  left : order l.x-iterator.a.rest.now l.x-iterator.b.rest.now ≡ order l.a l.b;
  as_much : length l.x-iterator.a.rest.now + length l.b ≡ length l.x-iterator.b.rest.now + length l.a;
}
