-- The lookup of a scope path for one target. What is named `..By` takes the words known first; under the name without it, it is by those that the code knows.
use Rattle.std.specs.Prelude.{ℕ, List, [], ◌∷◌, ◌++◌, length}
use Rattle.names.specs.Lists.{maybe, gather}
use Rattle.names.specs.Fields.{either, whole, digits}
use Rattle.types.specs.Types.{Vocabulary, dated, render}
use Rattle.schema.specs.Schema.{Schema, Action, schema_record}
use Rattle.schema.specs.Find.{find_action}
use Rattle.targets.specs.Targets.{Target, Targets, target_record}
use Rattle.targets.specs.PathRecord.{Side, principal, resource, Query, path_record, target_at}
use Rattle.resolution.specs.Resolution.{ScopePath, resolved, missing, non_record, ambiguous, unknown, scope_path_by}
use Rattle.reports.specs.Reports.{Outcome, refusal}
use Rattle.reports.specs.Placed.{placed}

-- the asked side's narrowing applies, to the entity types that the action names on that side
unfoldable pub on_side_by : Vocabulary → Schema → Targets → Query → Action → Side → ScopePath
on_side_by v s ts q a principal = scope_path_by v s ts.scope.principal a.principals q.path
on_side_by v s ts q a resource = scope_path_by v s ts.scope.resource a.resources q.path

abbrev pub on_side : Schema → Targets → Query → Action → Side → ScopePath
on_side = on_side_by dated

-- an undeclared target gives `unknown`
unfoldable pub found_by : Vocabulary → Schema → Targets → Query → Target → ScopePath
found_by v s ts q t = maybe unknown (λ a. on_side_by v s ts q a q.side) (find_action s t.namespace t.id)

abbrev pub found : Schema → Targets → Query → Target → ScopePath
found = found_by dated

-- a string behind its 16-bit length
abbrev pub sized : List ℕ → List ℕ
sized w = digits 2 (length w) ++ w

-- a status byte, a 16-bit count of strings, and the strings
unfoldable pub block : ℕ → List (List ℕ) → List ℕ
block status ws = status ∷ (digits 2 (length ws) ++ gather sized ws)

-- document 01's numbers and strings of the answers
unfoldable pub output : ScopePath → List ℕ
output (resolved t) = block 0 (render t ∷ [])
output (missing seg entities) = block 1 (seg ∷ entities)
output (non_record seg) = block 2 (seg ∷ [])
output (ambiguous types) = block 3 types
output unknown = block 4 []

-- the lookup of three records that were read: 12 where the list has no such position
unfoldable pub answered_by : Vocabulary → Schema → Targets → Query → List ℕ → Outcome
answered_by v s ts q buffer =
    maybe (refusal 12 3 buffer) (λ t. placed (output (found_by v s ts q t)) buffer) (target_at q.position ts.list)

abbrev pub answered : Schema → Targets → Query → List ℕ → Outcome
answered = answered_by dated

-- records 1, 3 and 4 in this order, each to its end
unfoldable pub lookup_by : Vocabulary → List ℕ → List ℕ → List ℕ → List ℕ → Outcome
lookup_by v schema_bytes target_bytes query_bytes buffer =
    either (λ r. refusal r 1 buffer)
    (λ s. either (λ r. refusal r 3 buffer)
    (λ ts. either (λ r. refusal r 4 buffer) (λ q. answered_by v s ts q buffer) (whole path_record query_bytes))
    (whole target_record target_bytes))
    (whole schema_record schema_bytes)

abbrev pub lookup : List ℕ → List ℕ → List ℕ → List ℕ → Outcome
lookup = lookup_by dated
