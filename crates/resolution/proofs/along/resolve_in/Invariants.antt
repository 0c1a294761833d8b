use Rattle.resolution.specs.Laws.Segments.{Left}
use Rattle.names.specs.Read.{word_at}
use Rattle.schema.specs.Places.{fields_in}
use Rattle.resolution.specs.Resolution.{resolve_in}
use Rattle.resolution.specs.Places.{segments_in}
use Rattle.std.proofs.Common.{◌-◌}
use Rattle.resolution.proofs.along.resolve_in.Given as goal

abbrev pub invariant-loop : goal.invariant-loop
invariant-loop l = Left l.s l.c (resolve_in (fields_in l.s l.fn.fields) (word_at l.c l.fn.path.head) (segments_in l.c l.fn.path.rest.segments)) (l.end - l.counter) l.at l.t
