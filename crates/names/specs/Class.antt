-- The classes of strings that a field may be of, and where a byte of a path name stands.
use Rattle.std.specs.Prelude.{ℕ, Bool, false, List}
use Rattle.names.specs.Names.{identifier, plain, path_name, path_or_none, path_tail, second_colon}
use Rattle.names.specs.declared.Class.{Class}
use Rattle.names.specs.declared.Class.TheVariants.{PathName, Plain, Identifier, PathOrNone}
use Rattle.names.specs.declared.Place.{Place}
use Rattle.names.specs.declared.Place.TheVariants.{Start, Inside, Colon, Nowhere}

abbrev pub class_of : Class → List ℕ → Bool
class_of PathName = path_name
class_of Plain = plain
class_of Identifier = identifier
class_of PathOrNone = path_or_none

-- what is left of a path name from a place
abbrev pub path_from : Place → List ℕ → Bool
path_from Start = path_name
path_from Inside = path_tail
path_from Colon = second_colon
path_from Nowhere = λ w. false
