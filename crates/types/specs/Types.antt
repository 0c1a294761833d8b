-- The types that the checks compare, and their two tests and two renderings.
use Rattle.std.specs.Prelude.{ℕ, Bool, true, false, cond, ◌&&◌, ◌||◌, List, ◌++◌, eqb}
use Rattle.std.proofs.Math.Option.{Option, none, some}
use Rattle.names.specs.Text.{text}
use Rattle.names.specs.Names.{same}

pub data Scalar : Type 0 where
  long string decimal bool timepoint object never datetime duration : Scalar

pub data Ty : Type 0 where
  scalar : Scalar → Ty
  -- tagged by a simple name, or untagged
  entity : Option (List ℕ) → Ty
  -- an array of unknown elements, of mixed ones, and of one type
  any_array mixed_array : Ty
  array : Ty → Ty

abbrev pub rank : Scalar → ℕ
rank long = 0
rank string = 1
rank decimal = 2
rank bool = 3
rank timepoint = 4
rank object = 5
rank never = 6
rank datetime = 7
rank duration = 8

abbrev pub same_scalar : Scalar → Scalar → Bool
same_scalar a b = eqb (rank a) (rank b)

abbrev pub same_tag : Option (List ℕ) → Option (List ℕ) → Bool
same_tag none none = true
same_tag none (some y) = false
same_tag (some x) none = false
same_tag (some x) (some y) = same x y

-- tagged alike, or one of them untagged
abbrev pub tag_fits : Option (List ℕ) → Option (List ℕ) → Bool
tag_fits none y = true
tag_fits (some x) none = true
tag_fits (some x) (some y) = same x y

-- Which types fit beside one: by a test of tags, and by whether an array of unknown elements stands for any array
module _ (tags : Option (List ℕ) → Option (List ℕ) → Bool) (unknown : Bool) where
  unfoldable pub fits : Ty → Ty → Bool
  fits (scalar a) (scalar b) = same_scalar a b
  fits (scalar a) (entity e) = false
  fits (scalar a) any_array = false
  fits (scalar a) mixed_array = false
  fits (scalar a) (array t) = false
  fits (entity e) (scalar b) = false
  fits (entity e) (entity f) = tags e f
  fits (entity e) any_array = false
  fits (entity e) mixed_array = false
  fits (entity e) (array t) = false
  fits any_array (scalar b) = false
  fits any_array (entity e) = false
  fits any_array any_array = true
  fits any_array mixed_array = unknown
  fits any_array (array t) = unknown
  fits mixed_array (scalar b) = false
  fits mixed_array (entity e) = false
  fits mixed_array any_array = unknown
  fits mixed_array mixed_array = true
  fits mixed_array (array t) = false
  fits (array t) (scalar b) = false
  fits (array t) (entity e) = false
  fits (array t) any_array = unknown
  fits (array t) mixed_array = false
  fits (array t) (array u) = fits t u

-- equality by structure
abbrev pub same_type : Ty → Ty → Bool
same_type = fits same_tag false

-- `accepts`: the second, actual type may stand where the first is declared
abbrev pub accepts : Ty → Ty → Bool
accepts = fits tag_fits true

-- how an equality takes two entities: plain, as the Rust does; or strict, as a caller may choose
pub data Profile : Type 0 where
  plain strict : Profile

-- plain, any two entities are compatible; strict, two known, different tags are not
abbrev pub tags_under : Profile → Option (List ℕ) → Option (List ℕ) → Bool
tags_under plain = λ e f. true
tags_under strict = tag_fits

-- `compatible`: the two may stand on the sides of an equality. The profile is handed down to the elements of arrays, and decides of two entities alone.
-- The Rust's clause for two numeric types adds nothing: only Long is numeric
abbrev pub compatible : Profile → Ty → Ty → Bool
compatible p = fits (tags_under p) true

-- what arithmetic wants of an operand: only Long is a number
abbrev pub is_numeric : Ty → Bool
is_numeric t = same_type t (scalar long)

-- the two types that are no numbers and have an order
abbrev pub is_time : Ty → Bool
is_time t = same_type t (scalar datetime) || same_type t (scalar duration)

-- the types that have an order
abbrev pub has_order : Ty → Bool
has_order t = is_numeric t || is_time t

-- what order wants of its two sides: two of one type that has an order
abbrev pub are_ordered : Ty → Ty → Bool
are_ordered l r = has_order l && same_type l r

abbrev pub word : Scalar → List ℕ
word long = text "int"
word string = text "string"
word decimal = text "decimal"
word bool = text "boolean"
word timepoint = text "timepoint"
word object = text "object"
word never = text "never"
word datetime = text "datetime"
word duration = text "duration"

-- the words that name types: those of the published Rust, or those and `datetime` and `duration`
pub data Vocabulary : Type 0 where
  published dated : Vocabulary

-- the type of its own that one of these two words names
unfoldable pub time_type : Vocabulary → List ℕ → Option Scalar
time_type published w = none
time_type dated w = cond (same w (word datetime)) (some datetime) (cond (same w (word duration)) (some duration) none)

unfoldable pub render : Ty → List ℕ
render (scalar a) = word a
render (entity none) = text "entity"
render (entity (some tag)) = text "entity:" ++ tag
render any_array = text "array"
render mixed_array = text "array<?>"
render (array t) = text "array<" ++ render t ++ text ">"

unfoldable pub display : Ty → List ℕ
display (scalar a) = word a
display (entity none) = text "entity"
display (entity (some tag)) = tag
display any_array = text "array"
display mixed_array = text "mixed-type array"
display (array t) = text "array<" ++ display t ++ text ">"
