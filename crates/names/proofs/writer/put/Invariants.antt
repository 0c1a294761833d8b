use Rattle.names.proofs.Pasting.{Pasted}
use Rattle.names.proofs.writer.put.Given as goal

abbrev pub invariant-loop-i : goal.invariant-loop-i
invariant-loop-i l = Pasted l.initial.buf l.at l.bytes l.buf l.i
