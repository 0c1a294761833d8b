use Rattle.std.proofs.Common.{◌-◌}
use Rattle.steps.proofs.Search.{Searching}
use Rattle.steps.specs.Steps.{first_pending}
use Rattle.targets.specs.Places.{targets_in}
use Rattle.steps.proofs.positions.first_pending.Given as goal

abbrev pub invariant-loop-position : goal.invariant-loop-position
invariant-loop-position l =
    Searching l.targets.bytes.now l.state.marks (first_pending l.state.marks 0 (targets_in l.targets.bytes.now).list) (l.position-end - l.position) l.at l.position
