-- What the answers of the environment and of terms say.
use Rattle.std.specs.Prelude.{ℕ, ◌≤◌, ◌≡◌, List, Some, None}
use Rattle.std.proofs.Math.Option.{Option}
use Rattle.names.specs.Read.{word_at}
use Rattle.types.specs.Types.{Ty, dated}
use Rattle.types.specs.Meaning.{tag_of, rich_of}
use Rattle.types.specs.declared.Tag.{Tag}
use Rattle.types.specs.declared.Rich.{Rich}
use Rattle.resolution.specs.declared.path.Path.{Path}
use Rattle.condition.specs.Condition.{Annotation}
use Rattle.condition.specs.Places.{path_in}
use Rattle.resolution.specs.Places.{segments_in, typed_of, small_type}
use Rattle.resolution.specs.declared.ScopePath.{ScopePath}
use Rattle.terms.specs.Terms.{other_type, word_type, annotation_type}
use Rattle.terms.specs.Bounds.{Within}
use Rattle.resolution.specs.Coded.{Typed}

-- the string at a place as a tag of the condition
pub record WordTag (c : List ℕ) (at : ℕ) (r : Tag) : Type 0 where
  pub value : (s : List ℕ) → tag_of s c r ≡ word_at c at
  pub short : r.len ≤ 255

-- the type of the word at a place, where the published Rust has none for it
pub record OtherTyped (c : List ℕ) (at : ℕ) (r : Rich) : Type 0 where
  pub value : (s : List ℕ) → rich_of s c r ≡ other_type dated (word_at c at)
  pub within : Within 0 (Some r)

-- the type that the word at a place names
pub record WordTyped (c : List ℕ) (at : ℕ) (r : Rich) : Type 0 where
  pub value : (s : List ℕ) → rich_of s c r ≡ word_type (word_at c at)
  pub within : Within 0 (Some r)

-- the type of an annotation
pub record AnnotationTyped (c : List ℕ) (a : Annotation) (r : Rich) : Type 0 where
  pub value : (s : List ℕ) → rich_of s c r ≡ annotation_type a
  pub within : Within 0 (Some r)

-- the type, if there is one, by the bytes of the schema alone
pub record TypedBy (s : List ℕ) (o : Option Ty) (r : Typed) : Type 0 where
  pub value : (c : List ℕ) → typed_of s c r ≡ o
  pub small : small_type o

-- the type, if there is one, by the bytes of the schema and the condition; it is small, so that its text is bounded
pub record TypeOf (s c : List ℕ) (o : Option Ty) (r : Typed) : Type 0 where
  pub value : typed_of s c r ≡ o
  pub small : small_type (typed_of s c r)

-- the type at the end of a path over the entity types of a scope
abbrev pub resolved_of : ScopePath → Typed
resolved_of (ScopePath.Resolved t) = Some t
resolved_of (ScopePath.Missing at) = None
resolved_of (ScopePath.NonRecord at) = None
resolved_of ScopePath.Ambiguous = None
resolved_of ScopePath.Unknown = None

-- the segments of the path at a place
pub record SegmentsOf (c : List ℕ) (at : ℕ) (r : Path) : Type 0 where
  pub bytes : r.bytes.now ≡ c
  pub value : segments_in c r.segments ≡ path_in c at
