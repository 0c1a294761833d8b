-- The place computes: small records. Assumes nothing.
use mathlib.Core.Path.{◌≡◌, refl}
use mathlib.Core.List.{[], ◌∷◌}
use Rattle.names.specs.Fields.{bytes, u8, u16, u32, u64, number, string_of, many, counted, heading, finished, whole, choose}
use Rattle.names.specs.Lists.{every}
use Rattle.names.specs.Names.{same, plain, plain_byte}
use Rattle.names.specs.Paths.{path_of}
use Rattle.names.specs.Read.{refusal_number}
use Rattle.targets.specs.PathRecord.{sides, scope_side, path_record}
use Rattle.condition.specs.Condition.{span, operators, operator, comparison_of, given, term_kinds, term_at, units, fits, amount_of, seconds_of, window_kinds, window, unary, condition_kinds, condition_at, condition_record_up_to, condition_record}
use Rattle.decimal.specs.Decimal.{digit, unsigned, behind_digit, begins_with_digit, well_formed, decimal_of, judged, decimal_text}
use Rattle.offence.specs.declared.Kind.TheVariants.{Condition, Path}
use Rattle.offence.specs.Offence.{number_of, place, place_from}

-- `DWP`, version 1: a scope that is not defined, which is the sixth byte
no_scope : place (number_of Path) (68 ∷ 87 ∷ 80 ∷ 0 ∷ 1 ∷ 9 ∷ 0 ∷ 0 ∷ []) ≡ 6
unfolding bytes u8 u16 number heading whole choose same refusal_number sides scope_side path_record place place_from
no_scope = refl

-- the principal, no segment, and the position is missing: where the bytes end
no_position : place (number_of Path) (68 ∷ 87 ∷ 80 ∷ 0 ∷ 1 ∷ 0 ∷ 0 ∷ []) ≡ 7
unfolding bytes u8 u16 number many counted heading whole choose same refusal_number path_of sides scope_side path_record place place_from
no_position = refl

-- a byte behind the record: where the record ends
one_more : place (number_of Path) (68 ∷ 87 ∷ 80 ∷ 0 ∷ 1 ∷ 0 ∷ 0 ∷ 0 ∷ 0 ∷ []) ≡ 8
unfolding bytes u8 u16 number many counted heading finished whole choose same refusal_number path_of sides scope_side path_record place place_from
one_more = refl

-- `DWC`, version 2: a Formerly within -1 seconds, whose amount ends with the 24th byte
below_zero : place (number_of Condition) (68 ∷ 87 ∷ 67 ∷ 0 ∷ 2 ∷ 4 ∷ 0 ∷ 0 ∷ 0 ∷ 0 ∷ 0 ∷ 0 ∷ 0 ∷ 0 ∷ 0 ∷ 0 ∷ 255 ∷ 255 ∷ 255 ∷ 255 ∷ 255 ∷ 255 ∷ 255 ∷ 255 ∷ 11 ∷ []) ≡ 24
unfolding bytes u8 u16 u32 u64 number heading whole choose same refusal_number span units fits amount_of seconds_of window_kinds window unary condition_kinds condition_at condition_record_up_to condition_record place place_from
below_zero = refl

-- `DWC`, version 3: a decimal whose text `5` is malformed, which ends with the 18th byte
malformed : place (number_of Condition) (68 ∷ 87 ∷ 67 ∷ 0 ∷ 3 ∷ 8 ∷ 0 ∷ 0 ∷ 0 ∷ 0 ∷ 0 ∷ 0 ∷ 0 ∷ 0 ∷ 4 ∷ 3 ∷ 1 ∷ 53 ∷ 9 ∷ []) ≡ 18
unfolding bytes u8 u16 u32 number string_of heading whole choose every same plain plain_byte refusal_number span operators operator comparison_of given condition_kinds term_kinds condition_at term_at condition_record_up_to condition_record digit unsigned behind_digit begins_with_digit well_formed decimal_of judged decimal_text place place_from
malformed = refl
