-- What the code's scopes say, and the entity types that they choose from.
use Rattle.std.specs.Prelude.{List, ℕ}
use Rattle.std.proofs.Math.Option.{Option}
use Rattle.schema.specs.Schema.{Schema}
use Rattle.schema.specs.Places.{schema_in}
use Rattle.targets.specs.Places.{narrowed}
use Rattle.targets.specs.Targets.{Narrowing}
use Rattle.resolution.specs.Places.{types_in}
use Rattle.resolution.specs.declared.candidates.Scope.{Scope}
use Rattle.resolution.specs.declared.candidates.Candidates.{Candidates}

abbrev pub schema_of : Scope → Schema
schema_of scope = schema_in scope.schema.bytes.now

abbrev pub narrowing_of : Scope → Option Narrowing
narrowing_of scope = narrowed scope.targets.now scope.narrowing

abbrev pub types_of : Candidates → List (List ℕ)
types_of candidates = types_in candidates.scope.schema.bytes.now candidates.types
