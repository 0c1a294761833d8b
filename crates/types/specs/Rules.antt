-- The rules in which the tests of two types differ, by the code's enum, and what fits beside more layers.
use Rattle.std.specs.Prelude.{Bool, true, false, List, ℕ}
use Rattle.std.proofs.Math.Option.{Option}
use Rattle.types.specs.Types.{Ty, fits, same_tag, tag_fits, tags_under}
use Rattle.types.specs.Meaning.{profile_in}
use Rattle.types.specs.declared.Profile.{Profile}
use Rattle.types.specs.declared.Base.{Base}
use Rattle.types.specs.declared.Test.{Test}

-- an array of unknown elements stands for any array, and an untagged entity for any entity
abbrev pub loose : Test → Bool
loose Test.Equal = false
loose Test.Accepts = true
loose (Test.Compatible p) = true

-- entities fit whatever their tags: in an equality under the plain profile
abbrev pub is_plain : Profile → Bool
is_plain Profile.Plain = true
is_plain Profile.Strict = false

abbrev pub any_tags : Test → Bool
any_tags Test.Equal = false
any_tags Test.Accepts = false
any_tags (Test.Compatible p) = is_plain p

abbrev pub tags_by : Test → Option (List ℕ) → Option (List ℕ) → Bool
tags_by Test.Equal = same_tag
tags_by Test.Accepts = tag_fits
tags_by (Test.Compatible p) = tags_under (profile_in p)

-- `same_type`, `accepts` and `compatible`
abbrev pub fits_by : Test → Ty → Ty → Bool
fits_by r = fits (tags_by r) (loose r)

-- which bases fit beside a type with more layers
abbrev pub unknown_fits : Bool → Base → Bool
unknown_fits l (Base.Plain b) = false
unknown_fits l (Base.Tagged t) = false
unknown_fits l Base.Untagged = false
unknown_fits l Base.AnyArray = l
unknown_fits l Base.MixedArray = false
