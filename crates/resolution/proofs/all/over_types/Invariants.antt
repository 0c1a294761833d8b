use Rattle.resolution.proofs.Admitted.{Along}
use Rattle.resolution.proofs.AllTypes.{Passing}
use Rattle.resolution.specs.Passes.{briefly}
use Rattle.resolution.specs.Paths.{headed_of}
use Rattle.resolution.specs.Resolution.{scope_path}
use Rattle.resolution.specs.Scopes.{schema_of, narrowing_of, types_of}
use Rattle.resolution.proofs.all.over_types.Given as goal

abbrev pub invariant-loop-p : goal.invariant-loop-p
invariant-loop-p l = Along (Passing l.s l.path.rest.bytes.now (narrowing_of l.scope) l.path.head l.path.rest.segments (briefly (scope_path (schema_of l.scope) (narrowing_of l.scope) (types_of l.fn.candidates) (headed_of l.path))) l.left l.known) l.s l.near

abbrev pub decreases-loop-p : goal.decreases-loop-p
decreases-loop-p l = l.left.count
