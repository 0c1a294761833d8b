-- The texts of the reports: a `format!` of the Rust each, its fixed texts in the table of `reports`.
use Rattle.std.specs.Prelude.{ℕ, List, [], ◌∷◌}
use Rattle.types.specs.Types.{Ty, display}
use Rattle.reports.specs.Messages.{message}
use Rattle.reports.specs.declared.Message.TheVariants.{WrongArgument, WrongTimepoint, NotNumeric, UnlikeTypes, WildcardInside, NotLong}

abbrev pub wrong_argument : List ℕ → List ℕ → Ty → Ty → List ℕ
wrong_argument name action expected actual = message WrongArgument (name ∷ action ∷ display expected ∷ display actual ∷ [])

abbrev pub wrong_timepoint : List ℕ → Ty → List ℕ
wrong_timepoint name t = message WrongTimepoint (name ∷ name ∷ name ∷ display t ∷ [])

abbrev pub not_numeric : Ty → Ty → List ℕ
not_numeric l r = message NotNumeric (display l ∷ display r ∷ [])

abbrev pub unlike_types : Ty → Ty → List ℕ
unlike_types l r = message UnlikeTypes (display l ∷ display r ∷ [])

abbrev pub wildcard_inside : List ℕ
wildcard_inside = message WildcardInside []

abbrev pub not_long : Ty → List ℕ
not_long t = message NotLong (display t ∷ [])
