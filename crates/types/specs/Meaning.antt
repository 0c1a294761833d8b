-- What the code's types mean, given the bytes of the schema and of the condition.
use Rattle.std.specs.Prelude.{ℕ, zero, suc, List, [], take, drop, Some, None}
use Rattle.std.specs.Prelude as std
use Rattle.std.proofs.Math.Option.{Option, none, some}
use Rattle.types.specs.Types.{Ty, scalar, entity, any_array, mixed_array, array}
use Rattle.types.specs.Types as types
use Rattle.types.specs.declared.Profile.{Profile}
use Rattle.types.specs.declared.Scalar.{Scalar}
use Rattle.types.specs.declared.Source.{Source}
use Rattle.types.specs.declared.Tag.{Tag}
use Rattle.types.specs.declared.Base.{Base}
use Rattle.types.specs.declared.Rich.{Rich}

abbrev pub scalar_of : Scalar → types.Scalar
scalar_of Scalar.Long = types.long
scalar_of Scalar.String = types.string
scalar_of Scalar.Decimal = types.decimal
scalar_of Scalar.Bool = types.bool
scalar_of Scalar.Timepoint = types.timepoint
scalar_of Scalar.Object = types.object
scalar_of Scalar.Never = types.never
scalar_of Scalar.Datetime = types.datetime
scalar_of Scalar.Duration = types.duration

-- the type that an answer of `time_type` names
abbrev pub time_of : std.Option Scalar → Option types.Scalar
time_of (Some a) = some (scalar_of a)
time_of None = none

-- the profile that the code's enum stands for
abbrev pub profile_in : Profile → types.Profile
profile_in Profile.Plain = types.plain
profile_in Profile.Strict = types.strict

-- the record that holds a tag
abbrev pub bytes_of : List ℕ → List ℕ → Source → List ℕ
bytes_of s c Source.Schema = s
bytes_of s c Source.Condition = c

abbrev pub tag_of : List ℕ → List ℕ → Tag → List ℕ
tag_of s c t = take t.len (drop t.at (bytes_of s c t.source))

abbrev pub base_of : List ℕ → List ℕ → Base → Ty
base_of s c (Base.Plain a) = scalar (scalar_of a)
base_of s c (Base.Tagged t) = entity (some (tag_of s c t))
base_of s c Base.Untagged = entity none
base_of s c Base.AnyArray = any_array
base_of s c Base.MixedArray = mixed_array

-- the tag of a base, nothing where it has none
abbrev pub tag_part : List ℕ → List ℕ → Base → List ℕ
tag_part s c (Base.Plain a) = []
tag_part s c (Base.Tagged t) = tag_of s c t
tag_part s c Base.Untagged = []
tag_part s c Base.AnyArray = []
tag_part s c Base.MixedArray = []

-- so many array layers over a type
unfoldable pub layered : ℕ → Ty → Ty
layered zero t = t
layered (suc n) t = array (layered n t)

abbrev pub rich_of : List ℕ → List ℕ → Rich → Ty
rich_of s c r = layered r.layers (base_of s c r.base)
