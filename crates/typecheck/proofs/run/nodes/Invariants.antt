use Rattle.reports.specs.Sink.{sink}
use Rattle.typecheck.proofs.Running.{NodesMade}
use Rattle.typecheck.proofs.run.nodes.Given as goal

abbrev pub invariant-loop-i : goal.invariant-loop-i
invariant-loop-i l = NodesMade l.target (sink l.fn.buf l.fn.state) (sink l.buf l.now) l.table l.i
