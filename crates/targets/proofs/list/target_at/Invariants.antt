use Rattle.std.proofs.Common.{◌-◌}
use Rattle.targets.specs.PathRecord.{target_at}
use Rattle.targets.specs.Places.{targets_in}
use Rattle.targets.proofs.Accepted.{Ahead}
use Rattle.targets.proofs.list.target_at.Given as goal

abbrev pub invariant-loop : goal.invariant-loop
invariant-loop l = Ahead l.s.bytes.now (target_at l.position (targets_in l.s.bytes.now).list) (l.position - l.counter) l.at
