-- The definitions at work: three breaches, of which the third repeats the second's pair with another end; and each message once, as the Rust writes it. Assumes nothing.
use Rattle.std.specs.Prelude.{◌≡◌, refl, [], ◌∷◌}
use Rattle.names.specs.Lists.{any_of, gather}
use Rattle.names.specs.Names.{same}
use Rattle.names.specs.Fields.{digits}
use Rattle.names.specs.Text.{text}
use Rattle.reports.specs.declared.Message.TheVariants.{WrongArgument, WrongTimepoint, NotNumeric, UnlikeTypes, WildcardInside, NotLong, CannotSum, CannotSumTimepoint, CannotSumDecimal}
use Rattle.reports.specs.Reports.{Breach, once, encoded, fitting, reported}
use Rattle.reports.specs.Messages.{parts, filled, from, message}

abbrev a : Breach
a = record { start = 1; end = 5; message = 109 ∷ [] }

abbrev b : Breach
b = record { start = 2; end = 6; message = 110 ∷ [] }

abbrev c : Breach
c = record { start = 2; end = 9; message = 110 ∷ [] }

-- the repeat is dropped, and the first one's end stays
dropped : once [] (a ∷ b ∷ c ∷ []) ≡ a ∷ b ∷ []
unfolding once any_of same
dropped = refl

-- 22 bytes are space for both
space : (reported (a ∷ b ∷ []) (text "......................")).answer ≡ record { number = 0; record_number = 0; count = 2 }
unfolding reported fitting encoded digits text
space = refl

-- in 21 the second does not fit: 11, and the bytes behind the first stay as they were
over : reported (a ∷ b ∷ []) (text ".....................") ≡ record {
  answer = record { number = 11; record_number = 0; count = 1 };
  buffer = 0 ∷ 0 ∷ 0 ∷ 1 ∷ 0 ∷ 0 ∷ 0 ∷ 5 ∷ 0 ∷ 1 ∷ 109 ∷ text "..........";
}
unfolding reported fitting encoded digits gather text
over = refl

argument : message WrongArgument (text "who" ∷ text "view" ∷ text "int" ∷ text "entity" ∷ []) ≡ text "argument `who` of `view` expects `int` but got `entity`"
unfolding from filled parts text
argument = refl

timepoint : message WrongTimepoint (text "x" ∷ text "x" ∷ text "x" ∷ text "int" ∷ []) ≡ text "`tp(x)` binds `x` to the current timepoint, but `x` is declared `int`; a `tp` variable must be declared `Timepoint`"
unfolding from filled parts text
timepoint = refl

numeric : message NotNumeric (text "boolean" ∷ text "int" ∷ []) ≡ text "comparison requires numeric operands on both sides, got `boolean` and `int`"
unfolding from filled parts text
numeric = refl

unlike : message UnlikeTypes (text "boolean" ∷ text "int" ∷ []) ≡ text "equality requires both sides to have the same type, got `boolean` and `int`"
unfolding from filled parts text
unlike = refl

wildcard : message WildcardInside [] ≡ text "a wildcard (`*` / `_`) cannot appear inside an arithmetic expression; it resolves to no value, so the whole guard would be silently false"
unfolding from filled parts text
wildcard = refl

leaf : message NotLong (text "string" ∷ []) ≡ text "arithmetic operates only on `Long` values, but this operand has type `string`"
unfolding from filled parts text
leaf = refl

summand : message CannotSum (text "x" ∷ text "x" ∷ text "App::User" ∷ []) ≡ text "cannot sum `x`: sum requires a `Long` summand, but `x` is `App::User`."
unfolding from filled parts text
summand = refl

summand_timepoint : message CannotSumTimepoint (text "x" ∷ text "x" ∷ []) ≡ text "cannot sum `x`: sum requires a `Long` summand, but `x` is `Timepoint`. Timepoints are ordinal positions, not quantities — use a Timepoint in the `for (…)` binders to keep per-timepoint rows, not as the value being summed."
unfolding from filled parts text
summand_timepoint = refl

summand_decimal : message CannotSumDecimal (text "x" ∷ text "x" ∷ []) ≡ text "cannot sum `x`: sum requires a `Long` summand, but `x` is `Decimal`. Dogwood arithmetic operates only on `Long` values, not decimals."
unfolding from filled parts text
summand_decimal = refl
