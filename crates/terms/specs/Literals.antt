-- Array literals: what the elements seen so far make of those to come, and what the type of an element says.
use Rattle.std.specs.Prelude.{ℕ, ◌+◌, ◌≤◌, ◌≡◌, cond, List, eqb, Ok, Some, None}
use Rattle.std.proofs.Math.Option.{Option, none}
use Rattle.names.specs.Fields.{Got, Reader}
use Rattle.names.specs.Names.{simple_name}
use Rattle.names.specs.Read.{ending, value_or, word_at}
use Rattle.types.specs.Types.{Ty, array, mixed_array, same_type}
use Rattle.types.specs.Meaning.{rich_of, tag_of}
use Rattle.types.specs.declared.Tag.{Tag}
use Rattle.types.specs.declared.Rich.{Rich}
use Rattle.types.specs.declared.Base.TheVariants as Base
use Rattle.types.specs.declared.Scalar.{Scalar}
use Rattle.condition.specs.Condition.{Terms, nil, element_list, condition_at, term_at}
use Rattle.condition.specs.Places.{version_in, term_in}
use Rattle.resolution.specs.Places.{typed_of}
use Rattle.terms.specs.Terms.{term_type, all_like, array_of}
use Rattle.terms.specs.Bounds.{Within}
use Rattle.terms.specs.declared.Element.{Element}
use Rattle.terms.specs.declared.Seen.{Seen}
use Rattle.resolution.specs.Coded.{Typed}

-- the type of a scalar
abbrev pub plain : Scalar → Typed
plain a = Some (record { layers = 0; base = Base.Plain a })

-- the type of a term by its kind alone: of the literals, of an aggregate and of arithmetic
abbrev pub kind_type : ℕ → Typed
kind_type k =
    cond (eqb k 2) (plain Scalar.Long)
    (cond (eqb k 3) (plain Scalar.Decimal)
    (cond (eqb k 4) (plain Scalar.String)
    (cond (eqb k 5) (plain Scalar.Bool)
    (cond (eqb k 11) (plain Scalar.Long)
    (cond (eqb k 12) (plain Scalar.Long) None)))))

-- one element more
abbrev pub seen_with : List ℕ → List ℕ → Seen → Typed → Seen
seen_with s c Seen.Empty None = Seen.Mixed
seen_with s c Seen.Empty (Some t) = Seen.Like t
seen_with s c (Seen.Like u) None = Seen.Mixed
seen_with s c (Seen.Like u) (Some t) = cond (same_type (rich_of s c t) (rich_of s c u)) (Seen.Like u) Seen.Mixed
seen_with s c Seen.Mixed None = Seen.Mixed
seen_with s c Seen.Mixed (Some t) = Seen.Mixed

-- the array's type, by the elements seen and the types of those to come
abbrev pub array_after : List ℕ → List ℕ → Seen → List (Option Ty) → Ty
array_after s c Seen.Empty rest = array_of rest
array_after s c (Seen.Like t) rest = cond (all_like (rich_of s c t) rest) (array (rich_of s c t)) mixed_array
array_after s c Seen.Mixed rest = mixed_array

-- the type of the elements, where they have one
abbrev pub seen_type : Seen → Typed
seen_type Seen.Empty = None
seen_type (Seen.Like t) = Some t
seen_type Seen.Mixed = None

-- what was read has this type, ends at this place, and has at most so many layers
pub record TypedAt {A : Type 0} (s c : List ℕ) (g : Got A) (o : Option Ty) (layers : ℕ) (r : Element) : Type 0 where
  pub value : typed_of s c r.typed ≡ o
  pub ends : ending g ≡ Ok r.next
  pub within : Within layers r.typed

-- a count of elements and the elements, with so many levels left
abbrev pub list_at : ℕ → Reader Terms
list_at left c = element_list (version_in c) (condition_at (version_in c) left) (term_at (version_in c) left) c

unfoldable pub list_in : ℕ → List ℕ → ℕ → Terms
list_in left c at = value_or nil (list_at left c at)

-- one layer more than the elements have; none where there is no element, or they are mixed
abbrev pub array_rich : Seen → Rich
array_rich Seen.Empty = record { layers = 0; base = Base.AnyArray }
array_rich (Seen.Like t) = record { layers = t.layers + 1; base = t.base }
array_rich Seen.Mixed = record { layers = 0; base = Base.MixedArray }

-- a tag in the condition: the simple name of the type name at a place
pub record EntityTag (c : List ℕ) (at : ℕ) (r : Tag) : Type 0 where
  pub value : (s : List ℕ) → tag_of s c r ≡ simple_name (word_at c at)
  pub short : r.len ≤ 255

-- the type of a term that is no array
pub record LeafTyped (c : List ℕ) (at : ℕ) (r : Typed) : Type 0 where
  pub value : (s : List ℕ) → typed_of s c r ≡ term_type none (term_in c at)
  pub within : Within 0 r
