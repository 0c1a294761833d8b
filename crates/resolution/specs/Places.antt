-- What the code's answers stand for: a type's tag lies in the schema's bytes s, a segment in the bytes c that hold the path.
use Rattle.std.specs.Prelude.{ℕ, ◌+◌, ◌≤◌, ◌<◌, ◌≡◌, Bool, true, false, List, [], ◌∷◌, length, get_or, Some, None, Ok, Err}
use Rattle.std.proofs.Math.Option.{Option, none, some}
use Rattle.names.specs.Lists.{select}
use Rattle.names.specs.Fields.{string_of}
use Rattle.names.specs.Names.{path_name, plain}
use Rattle.names.specs.Read.{word_at, is_row, row_in}
use Rattle.types.specs.Types.{Ty}
use Rattle.types.specs.Laws.Texts.{Small}
use Rattle.types.specs.Meaning.{rich_of}
use Rattle.names.specs.declared.Row.{Row}
use Rattle.schema.specs.Places.{Nearby, Near}
use Rattle.targets.specs.declared.Narrowed.{Narrowed}
use Rattle.resolution.specs.Resolution as Resolution
use Rattle.resolution.specs.declared.Unresolved.{Unresolved}
use Rattle.resolution.specs.Coded.{PathResolution}
use Rattle.resolution.specs.declared.Failure.{Failure}
use Rattle.resolution.specs.Coded.{PathEnd}
use Rattle.resolution.specs.Coded.{Typed, NextNear, Next}

-- the segments of a path, so many plain strings from a position
abbrev pub are_segments : List ℕ → Row → Bool
are_segments c r = is_row (string_of plain) c r.count r.at

abbrev pub segments_in : List ℕ → Row → List (List ℕ)
segments_in c r = row_in (string_of plain) c r.count r.at

-- a path's segments behind the first
pub record Behind (c : List ℕ) (path rest : Row) : Type 0 where
  pub stands : are_segments c rest ≡ true
  pub value : word_at c path.at ∷ segments_in c rest ≡ segments_in c path

-- the entity types of a side, so many path names from a position
abbrev pub are_types : List ℕ → Row → Bool
are_types s r = is_row (string_of path_name) s r.count r.at

abbrev pub types_in : List ℕ → Row → List (List ℕ)
types_in s r = row_in (string_of path_name) s r.count r.at

abbrev pub typed_of : List ℕ → List ℕ → Typed → Option Ty
typed_of s c (Some t) = some (rich_of s c t)
typed_of s c None = none

abbrev pub resolution_of : List ℕ → List ℕ → PathResolution → Resolution.PathResolution
resolution_of s c (Ok t) = Resolution.PathResolution.resolved (rich_of s c t)
resolution_of s c (Err Unresolved.HeadMissing) = Resolution.head_missing
resolution_of s c (Err (Unresolved.NestedMissing at)) = Resolution.nested_missing (word_at c at)
resolution_of s c (Err (Unresolved.NonRecord at)) = Resolution.PathResolution.non_record (word_at c at)

-- the type at its end
abbrev pub leaf_of : PathResolution → Typed
leaf_of (Ok t) = Some t
leaf_of (Err Unresolved.HeadMissing) = None
leaf_of (Err (Unresolved.NestedMissing at)) = None
leaf_of (Err (Unresolved.NonRecord at)) = None

abbrev pub end_of : List ℕ → List ℕ → PathEnd → Resolution.PathEnd
end_of s c (Ok t) = Resolution.PathEnd.resolved (rich_of s c t)
end_of s c (Err (Failure.Missing at)) = Resolution.PathEnd.missing (word_at c at)
end_of s c (Err (Failure.NonRecord at)) = Resolution.PathEnd.non_record (word_at c at)

-- The types of answers are small, so that their texts are bounded.
abbrev pub small_type : Option Ty → Type 0
small_type (some t) = Small t
small_type none = 0 ≤ 0

abbrev pub small_resolution : Resolution.PathResolution → Type 0
small_resolution (Resolution.PathResolution.resolved t) = Small t
small_resolution Resolution.head_missing = 0 ≤ 0
small_resolution (Resolution.nested_missing segment) = 0 ≤ 0
small_resolution (Resolution.PathResolution.non_record segment) = 0 ≤ 0

abbrev pub small_end : Resolution.PathEnd → Type 0
small_end (Resolution.PathEnd.resolved t) = Small t
small_end (Resolution.PathEnd.missing segment) = 0 ≤ 0
small_end (Resolution.PathEnd.non_record segment) = 0 ≤ 0

abbrev pub small_path : Resolution.ScopePath → Type 0
small_path (Resolution.ScopePath.resolved t) = Small t
small_path (Resolution.ScopePath.missing segment names) = 0 ≤ 0
small_path (Resolution.ScopePath.non_record segment) = 0 ≤ 0
small_path (Resolution.ambiguous words) = 0 ≤ 0
small_path Resolution.unknown = 0 ≤ 0

-- no narrowing
abbrev pub is_absent : Narrowed → Bool
is_absent Narrowed.Absent = true
is_absent Narrowed.Any = false
is_absent (Narrowed.IsType p) = false
is_absent (Narrowed.Uid p) = false
is_absent (Narrowed.Member p) = false

-- what a pass over a row of names finds next: one that passes a test, and those that pass it behind
abbrev pub next_in : List ℕ → (List ℕ → Bool) → Next → List (List ℕ)
next_in s test (Some (p, rest)) = word_at s p ∷ select test (types_in s rest)
next_in s test None = []

pub record Follows (s : List ℕ) (row : Row) (p : ℕ) (rest : Row) : Type 0 where
  pub inside : p + 1 + get_or s p 0 ≤ length s
  pub stands : are_types s rest ≡ true
  pub fewer : rest.count < row.count

abbrev pub next_follows : List ℕ → Row → Next → Type 0
next_follows s row (Some (p, rest)) = Follows s row p rest
next_follows s row None = 0 ≤ row.count

pub record NextOf (s : List ℕ) (test : List ℕ → Bool) (row : Row) (r : Next) : Type 0 where
  pub value : next_in s test r ≡ select test (types_in s row)
  pub follows : next_follows s row r

-- where searches for entity types go on: where a narrowing asks for the ancestors of a name, its entity type is found there
abbrev pub near_for : List ℕ → List ℕ → Narrowed → Row → Type 0
near_for s name Narrowed.Absent r = Nearby s r
near_for s name Narrowed.Any r = Nearby s r
near_for s name (Narrowed.IsType p) r = Nearby s r
near_for s name (Narrowed.Uid p) r = Nearby s r
near_for s name (Narrowed.Member p) r = Near s name r

pub record Nearer (s name : List ℕ) (x : Narrowed) (r : Row) : Type 0 where
  pub row : Nearby s r
  pub near : near_for s name x r

-- what a pass finds next, and from where on the next search goes
abbrev pub next_of : NextNear → Next
next_of (Some (p, rest, near)) = Some (p, rest)
next_of None = None

abbrev pub near_of : List ℕ → NextNear → Type 0
near_of s (Some (p, rest, near)) = Nearby s near
near_of s None = 0 ≤ 0

pub record NextNearOf (s : List ℕ) (test : List ℕ → Bool) (row : Row) (r : NextNear) : Type 0 where
  pub next : NextOf s test row (next_of r)
  pub near : near_of s r

-- the same where the entity type of what it finds was looked for besides
abbrev pub placed_of : List ℕ → NextNear → Type 0
placed_of s (Some (p, rest, near)) = Near s (word_at s p) near
placed_of s None = 0 ≤ 0

pub record NextPlaced (s : List ℕ) (test : List ℕ → Bool) (row : Row) (r : NextNear) : Type 0 where
  pub next : NextOf s test row (next_of r)
  pub near : placed_of s r
