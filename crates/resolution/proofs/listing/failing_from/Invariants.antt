use Rattle.names.specs.Read.{word_at}
use Rattle.resolution.proofs.Admitted.{Along}
use Rattle.resolution.specs.Laws.Failing.{Failing}
use Rattle.resolution.specs.Paths.{headed_of}
use Rattle.resolution.specs.Scopes.{schema_of, narrowing_of}
use Rattle.resolution.proofs.listing.failing_from.Given as goal

abbrev pub invariant-loop-p : goal.invariant-loop-p
invariant-loop-p l = Along (Failing (schema_of l.scope) (narrowing_of l.scope) (headed_of l.path) (word_at l.path.rest.bytes.now l.segment) l.scope.schema.bytes.now l.initial.left l.left) l.scope.schema.bytes.now l.near

abbrev pub decreases-loop-p : goal.decreases-loop-p
decreases-loop-p l = l.left.count
