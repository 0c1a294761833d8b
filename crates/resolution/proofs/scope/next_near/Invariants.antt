use Rattle.resolution.proofs.Admitted.{Scanning, Along}
use Rattle.resolution.specs.Scopes.{schema_of, narrowing_of}
use Rattle.resolution.specs.Resolution.{admitted_by}
use Rattle.resolution.proofs.scope.next_near.Given as goal

abbrev pub invariant-loop-left : goal.invariant-loop-left
invariant-loop-left l = Along (Scanning l.s (admitted_by (schema_of l.scope) (narrowing_of l.scope)) l.fn.candidates.types l.left l.at) l.s l.near
