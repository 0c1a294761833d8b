use Rattle.condition.specs.Condition.{binder}
use Rattle.names.specs.Fields.{each, counted}
use Rattle.names.specs.Read.{ending, row}
use Rattle.std.proofs.Common.{◌≡◌, ◌-◌}
use mathlib.Core.Path.{◌≡◌}
use Rattle.condition.proofs.read.read_binders.Given as goal

abbrev pub invariant-loop : goal.invariant-loop
invariant-loop l = ending (counted (each binder) l.s l.start) ≡ ending (row binder (l.count - l.counter) l.s l.at)
