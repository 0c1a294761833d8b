use Rattle.names.specs.Fields.{each, counted}
use Rattle.names.specs.Read.{ending, row}
use Rattle.std.proofs.Common.{◌≡◌, ◌-◌}
use Rattle.targets.specs.Targets.{target}
use mathlib.Core.Path.{◌≡◌}
use Rattle.targets.proofs.read.read_list.Given as goal

abbrev pub invariant-loop : goal.invariant-loop
invariant-loop l = ending (counted (each target) l.s l.start) ≡ ending (row target (l.count - l.counter) l.s l.at)
