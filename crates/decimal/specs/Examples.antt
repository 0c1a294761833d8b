-- Texts of decimals with what reading them gives, and numbers with how they are written: computed from the definitions.
use Rattle.std.specs.Prelude.{ℕ, ◌+◌, ◌≡◌, refl, List, [], ◌∷◌, length, ℤ, pos, negsuc}
use Rattle.names.specs.Text.{text}
use Rattle.names.specs.Lists.{every, gather}
use Rattle.names.specs.Names.{plain, plain_byte}
use Rattle.names.specs.Fields.{Got, got, bad, u8, bytes, string_of}
use Rattle.reports.specs.Reports.{refusal}
use Rattle.reports.specs.Placed.{placed}
use Rattle.decimal.specs.Decimal.{digit, minus, unsigned, fraction, behind_digit, begins_with_digit, well_formed, with_fraction, ten_thousandths, value_of, in_range, held, decimal_of, judged, decimal_text, last_digits, count_digits, numeral, sign, shown, written}
use Rattle.names.specs.declared.refusal.Refusal.{Refusal}
use Rattle.names.specs.declared.refusal.Refusal.TheVariants.{Cut, OutsideClass, MalformedDecimal, DecimalOutOfRange}

-- a text behind its length byte, and what reading the field gives
abbrev pub refused : List ℕ → Refusal → List ℕ × Got ℤ
refused w refusal = (length w ∷ w, bad refusal)

abbrev pub worth : List ℕ → ℤ → List ℕ × Got ℤ
worth w z = (length w ∷ w, got z (1 + length w))

abbrev pub readings : List (List ℕ × Got ℤ)
readings =
    -- the bytes, the class, the shape, the range, in this order
    (4 ∷ text "1.", bad Cut)
    ∷ refused (text "1\"") OutsideClass
    ∷ refused (0xB1 ∷ text ".") OutsideClass
    ∷ refused (text "99999999999999999999.00000") MalformedDecimal
    ∷ refused (text "99999999999999999999.0") DecimalOutOfRange
    ∷ refused [] MalformedDecimal
    -- the shape
    ∷ worth (text "-0.0") (pos 0)
    ∷ worth (text "00.5") (pos 5000)
    ∷ worth (text "000000000000000000000000000001.5") (pos 15000)
    ∷ refused (text "+1.0") MalformedDecimal
    ∷ refused (text ".5") MalformedDecimal
    ∷ refused (text "-.5") MalformedDecimal
    ∷ refused (text "5.") MalformedDecimal
    ∷ refused (text "5") MalformedDecimal
    ∷ refused (text "1.00000") MalformedDecimal
    ∷ refused (text "1.0.0") MalformedDecimal
    ∷ refused (text " 1.0") MalformedDecimal
    ∷ refused (text "--1.0") MalformedDecimal
    -- the range
    ∷ worth (text "922337203685477.5807") (pos 9223372036854775807)
    ∷ worth (text "-922337203685477.5808") (negsuc 9223372036854775807)
    ∷ refused (text "922337203685477.5808") DecimalOutOfRange
    ∷ refused (text "-922337203685477.5809") DecimalOutOfRange
    ∷ refused (text "922337203685478.0") DecimalOutOfRange
    ∷ refused (text "x") MalformedDecimal
    ∷ []

-- each reading gives what stands beside it
abbrev pub given : List (List ℕ × Got ℤ) → List (Got ℤ)
given rows = gather (λ row. decimal_text row.0 0 ∷ []) rows

abbrev pub expected : List (List ℕ × Got ℤ) → List (Got ℤ)
expected rows = gather (λ row. row.1 ∷ []) rows

pub readings_hold : given readings ≡ expected readings
unfolding text gather every plain plain_byte u8 bytes string_of digit minus unsigned fraction behind_digit begins_with_digit well_formed with_fraction ten_thousandths value_of in_range held decimal_of judged decimal_text
readings_hold = refl

-- a number, and how it is written
abbrev pub writings : List (ℤ × List ℕ)
writings =
    (pos 0, text "0.0000")
    ∷ (pos 1, text "0.0001")
    ∷ (negsuc 0, text "-0.0001")
    ∷ (pos 5000, text "0.5000")
    ∷ (pos 15000, text "1.5000")
    ∷ (negsuc 9223372036854775807, text "-922337203685477.5808")
    ∷ (pos 9223372036854775807, text "922337203685477.5807")
    ∷ []

pub writings_hold : gather (λ row. written row.0 ∷ []) writings ≡ gather (λ row. row.1 ∷ []) writings
unfolding text gather last_digits count_digits numeral sign shown written
writings_hold = refl

-- a buffer that is long enough, and one that is a byte too short
pub just-fits : placed (written (pos 15000)) (text "......") ≡ record { answer = record { number = 0; record_number = 0; count = 6 }; buffer = text "1.5000" }
unfolding text placed last_digits count_digits numeral sign shown written
just-fits = refl

pub too_short : placed (written (pos 15000)) (text ".....") ≡ refusal 11 0 (text ".....")
unfolding text placed last_digits count_digits numeral sign shown written
too_short = refl
