use Rattle.std.proofs.Common.{◌-◌}
use Rattle.reports.specs.Sink.{sink}
use Rattle.typecheck.proofs.Running.{TargetsMade}
use Rattle.typecheck.proofs.run.all_targets.Given as goal

abbrev pub invariant-loop : goal.invariant-loop
invariant-loop l = TargetsMade l.run (sink l.fn.buf l.fn.state) (sink l.buf l.now) l.table l.visits (l.end - l.counter) l.at
