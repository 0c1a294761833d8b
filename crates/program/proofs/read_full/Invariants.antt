-- What was read lies at the front of the space, which stays as long as it was. What is left of it shrinks.
use Rattle.std.proofs.Common.{length, ◌-◌, ◌≡◌, ◌≤◌, take}
use Rattle.std.specs.Io.KnownBytes.{Consumes}
use Rattle.program.proofs.read_full.Given as goal

abbrev pub invariant-loop-done : goal.invariant-loop-done
invariant-loop-done g l = (length l.space ≡ length l.initial.space) × (l.done ≤ length l.space) × Consumes (g.F.Read.remaining l.initial.file) (g.F.Read.remaining l.file) (take l.done l.space)

abbrev pub decreases-loop-done : goal.decreases-loop-done
decreases-loop-done g l = length l.initial.space - l.done
