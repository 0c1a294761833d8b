use Rattle.names.specs.Lists.{select}
use Rattle.resolution.proofs.Admitted.{Along}
use Rattle.resolution.proofs.Rendered.{Picking}
use Rattle.resolution.proofs.Texts.{picked}
use Rattle.resolution.specs.Passes.{rendered}
use Rattle.resolution.specs.Paths.{headed_of}
use Rattle.resolution.specs.Places.{typed_of, types_in}
use Rattle.resolution.specs.Resolution.{admitted_by}
use Rattle.resolution.specs.Scopes.{schema_of, narrowing_of}
use mathlib.Core.Option.{none}
use Rattle.resolution.proofs.ordering.rendering_from.Given as goal

abbrev pub invariant-loop-p : goal.invariant-loop-p
invariant-loop-p l = Along (Picking l.s l.path.rest.bytes.now (schema_of l.scope) (narrowing_of l.scope) (headed_of l.path) (rendered (typed_of l.s l.path.rest.bytes.now l.last)) (picked (schema_of l.scope) (headed_of l.path) (rendered (typed_of l.s l.path.rest.bytes.now l.last)) none (select (admitted_by (schema_of l.scope) (narrowing_of l.scope)) (types_in l.s l.initial.left))) l.left l.best) l.s l.near

abbrev pub decreases-loop-p : goal.decreases-loop-p
decreases-loop-p l = l.left.count
