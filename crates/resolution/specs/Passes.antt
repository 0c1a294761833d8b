-- What one pass over a scope's entity types knows, and what the passes list.
use Rattle.std.specs.Prelude.{ℕ, Bool, true, false, cond, ◌&&◌, List, [], ◌∷◌, Some, None, Ok, Err}
use Rattle.std.proofs.Math.Option.{Option, none, some}
use Rattle.names.specs.Lists.{maybe, select}
use Rattle.names.specs.Names.{below}
use Rattle.names.specs.Read.{word_at}
use Rattle.types.specs.Types.{Ty, same_type, render}
use Rattle.types.specs.Meaning.{rich_of}
use Rattle.schema.specs.Schema.{Schema}
use Rattle.schema.specs.Find.{find_entity}
use Rattle.targets.specs.Targets.{Narrowing}
use Rattle.resolution.specs.Resolution as Resolution
use Rattle.resolution.specs.Resolution.{PathEnd, missing_at, typed, on_entity, admitted_by, renderings}
use Rattle.resolution.specs.declared.ScopePath.{ScopePath}
use Rattle.resolution.specs.declared.Failure.{Failure}
use Rattle.resolution.specs.Coded.{Typed}
use Rattle.resolution.specs.Coded as coded

-- document 01's numbers of the answers
abbrev pub scope_number : ScopePath → ℕ
scope_number (ScopePath.Resolved t) = 0
scope_number (ScopePath.Missing at) = 1
scope_number (ScopePath.NonRecord at) = 2
scope_number ScopePath.Ambiguous = 3
scope_number ScopePath.Unknown = 4

-- what the code's answer stands for, without the entity types and the renderings that are listed
abbrev pub scope_of : List ℕ → List ℕ → ScopePath → Resolution.ScopePath
scope_of s c (ScopePath.Resolved t) = Resolution.ScopePath.resolved (rich_of s c t)
scope_of s c (ScopePath.Missing at) = Resolution.ScopePath.missing (word_at c at) []
scope_of s c (ScopePath.NonRecord at) = Resolution.ScopePath.non_record (word_at c at)
scope_of s c ScopePath.Ambiguous = Resolution.ambiguous []
scope_of s c ScopePath.Unknown = Resolution.unknown

-- an answer without its list, and the list
unfoldable pub briefly : Resolution.ScopePath → Resolution.ScopePath
briefly (Resolution.ScopePath.resolved t) = Resolution.ScopePath.resolved t
briefly (Resolution.ScopePath.missing segment names) = Resolution.ScopePath.missing segment []
briefly (Resolution.ScopePath.non_record segment) = Resolution.ScopePath.non_record segment
briefly (Resolution.ambiguous words) = Resolution.ambiguous []
briefly Resolution.unknown = Resolution.unknown

unfoldable pub listed : Resolution.ScopePath → List (List ℕ)
listed (Resolution.ScopePath.resolved t) = []
listed (Resolution.ScopePath.missing segment names) = names
listed (Resolution.ScopePath.non_record segment) = []
listed (Resolution.ambiguous words) = words
listed Resolution.unknown = []

-- an answer with a list, where it has one
unfoldable pub with_list : Resolution.ScopePath → List (List ℕ) → Resolution.ScopePath
with_list (Resolution.ScopePath.resolved t) ws = Resolution.ScopePath.resolved t
with_list (Resolution.ScopePath.missing segment names) ws = Resolution.ScopePath.missing segment ws
with_list (Resolution.ScopePath.non_record segment) ws = Resolution.ScopePath.non_record segment
with_list (Resolution.ambiguous words) ws = Resolution.ambiguous ws
with_list Resolution.unknown ws = Resolution.unknown

-- the answer where one type is all that is known
unfoldable pub end_alone : PathEnd → Resolution.ScopePath
end_alone (Resolution.PathEnd.resolved t) = Resolution.ScopePath.resolved t
end_alone (Resolution.PathEnd.missing segment) = Resolution.ScopePath.missing segment []
end_alone (Resolution.PathEnd.non_record segment) = Resolution.ScopePath.non_record segment

-- the answer where the others agree on a type, and where they do not
unfoldable pub end_beside : Ty → PathEnd → Resolution.ScopePath
end_beside t (Resolution.PathEnd.resolved u) = cond (same_type u t) (Resolution.ScopePath.resolved t) (Resolution.ambiguous [])
end_beside t (Resolution.PathEnd.missing segment) = Resolution.ScopePath.missing segment []
end_beside t (Resolution.PathEnd.non_record segment) = Resolution.ScopePath.non_record segment

unfoldable pub end_among : PathEnd → Resolution.ScopePath
end_among (Resolution.PathEnd.resolved u) = Resolution.ambiguous []
end_among (Resolution.PathEnd.missing segment) = Resolution.ScopePath.missing segment []
end_among (Resolution.PathEnd.non_record segment) = Resolution.ScopePath.non_record segment

-- the answer for the entity types so far, with one more: the first failure stays
unfoldable pub with_end : Resolution.ScopePath → PathEnd → Resolution.ScopePath
with_end Resolution.unknown e = end_alone e
with_end (Resolution.ScopePath.resolved t) e = end_beside t e
with_end (Resolution.ambiguous words) e = end_among e
with_end (Resolution.ScopePath.missing segment names) e = Resolution.ScopePath.missing segment []
with_end (Resolution.ScopePath.non_record segment) e = Resolution.ScopePath.non_record segment

-- a failure of a path on one type, as an answer for all
abbrev pub failed_by : Failure → ScopePath
failed_by (Failure.Missing at) = ScopePath.Missing at
failed_by (Failure.NonRecord at) = ScopePath.NonRecord at

-- the same for the code's answers
abbrev pub alone_of : coded.PathEnd → ScopePath
alone_of (Ok t) = ScopePath.Resolved t
alone_of (Err (Failure.Missing at)) = ScopePath.Missing at
alone_of (Err (Failure.NonRecord at)) = ScopePath.NonRecord at

abbrev pub among_of : coded.PathEnd → ScopePath
among_of (Ok t) = ScopePath.Ambiguous
among_of (Err (Failure.Missing at)) = ScopePath.Missing at
among_of (Err (Failure.NonRecord at)) = ScopePath.NonRecord at

-- a path fails on the entity type of a name by a missing segment
unfoldable pub fails_at : Schema → List (List ℕ) → List ℕ → List ℕ → Bool
fails_at s [] segment name = false
fails_at s (head ∷ rest) segment name = maybe false (λ e. missing_at segment (on_entity head rest e)) (find_entity s name)

-- an admitted entity type on which the path fails so
unfoldable pub failing : Schema → Option Narrowing → List (List ℕ) → List ℕ → List ℕ → Bool
failing s narrow path segment name = admitted_by s narrow name && fails_at s path segment name

-- the text of a type, where there is one
abbrev pub rendered : Option Ty → Option (List ℕ)
rendered o = maybe none (λ t. some (render t)) o

-- a text behind the last one, and one before the best
abbrev pub above : Option (List ℕ) → List ℕ → Bool
above last w = maybe true (λ v. below v w) last

abbrev pub under : Option (List ℕ) → List ℕ → Bool
under best w = maybe true (λ v. below w v) best

-- of the best type so far and another, the one whose text stands first behind the last
unfoldable pub closest : Option (List ℕ) → Option Ty → Option Ty → Option Ty
closest last best none = best
closest last best (some t) = cond (above last (render t) && under (rendered best) (render t)) (some t) best

-- the type of a path on the entity type of a name, and on those of some names
unfoldable pub type_on : Schema → List (List ℕ) → List ℕ → Option Ty
type_on s [] name = none
type_on s (head ∷ rest) name = maybe none (λ e. typed (on_entity head rest e)) (find_entity s name)

unfoldable pub types_on : Schema → List (List ℕ) → List (List ℕ) → List Ty
types_on s path [] = []
types_on s path (name ∷ names) = maybe (types_on s path names) (λ t. t ∷ types_on s path names) (type_on s path name)

-- the different texts of the types on all admitted entity types, in order
abbrev pub renderings_on : Schema → Option Narrowing → List (List ℕ) → List (List ℕ) → List (List ℕ)
renderings_on s narrow names path = renderings (types_on s path (select (admitted_by s narrow) names))

-- what a pass over texts in order finds next: a type's text, and those behind it
abbrev pub next_rendered : List (List ℕ) → Option Ty → List (List ℕ)
next_rendered words o = maybe [] (λ t. render t ∷ select (below (render t)) words) o

-- the type at an end
abbrev pub end_type : coded.PathEnd → Typed
end_type (Ok t) = Some t
end_type (Err (Failure.Missing at)) = None
end_type (Err (Failure.NonRecord at)) = None
