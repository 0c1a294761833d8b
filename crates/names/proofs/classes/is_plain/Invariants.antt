-- From the place on, what is left is plain just where the whole is.
use Rattle.std.proofs.Common.{◌≡◌, drop}
use Rattle.names.specs.Names.{plain}
use Rattle.names.proofs.classes.is_plain.Given as goal

abbrev pub invariant-loop-b : goal.invariant-loop-b
invariant-loop-b l = plain (drop l.b-index l.s) ≡ plain l.s
