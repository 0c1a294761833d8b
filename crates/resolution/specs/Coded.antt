-- What the code's searches answer.
use Rattle.std.specs.Prelude.{ℕ, Option, Result}
use Rattle.names.specs.declared.Row.{Row}
use Rattle.types.specs.declared.Rich.{Rich}
use Rattle.resolution.specs.declared.Unresolved.{Unresolved}
use Rattle.resolution.specs.declared.Failure.{Failure}

-- a type, where there is one
abbrev pub Typed : Type 0
Typed = Option Rich

-- the next name of a row, if there is one: where it stands, and the names behind it
abbrev pub Next : Type 0
Next = Option (ℕ × Row)

-- the same, with the row of entity types from which the next search for one begins
abbrev pub NextNear : Type 0
NextNear = Option (ℕ × Row × Row)

-- how a path into a record ends, and how one ends on one entity type
abbrev pub PathResolution : Type 0
PathResolution = Result Rich Unresolved

abbrev pub PathEnd : Type 0
PathEnd = Result Rich Failure
