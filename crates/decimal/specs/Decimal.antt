-- Decimals as Cedar writes them: which texts they are, the number of ten-thousandths that each stands for, and how such a number is written back.
use Rattle.std.specs.Prelude.{ℕ, zero, suc, ◌+◌, ◌*◌, ◌-◌, ◌/◌, ◌%◌, ◌^◌, Bool, true, false, cond, ◌&&◌, List, [], ◌∷◌, ◌++◌, length, get_or, ltb, eqb, ℤ, pos, negsuc, neg_ℤ, nat_abs, Ok, Err}
use Rattle.std.specs.Int.Signed.{le_z, lt_z}
use Rattle.names.specs.Lists.{every}
use Rattle.names.specs.Names.{between, plain}
use Rattle.names.specs.Fields.{Reader, ◌>>=◌, pure, refuse, string_of}
use Rattle.std.specs.Prelude.{Result}
use Rattle.names.specs.declared.refusal.Refusal.{Refusal}
use Rattle.names.specs.declared.refusal.Refusal.TheVariants.{MalformedDecimal, DecimalOutOfRange}

-- what the code finds a text to be
abbrev pub Decimal : Type 0
Decimal = Result ℤ Refusal

-- `0` to `9`
unfoldable pub digit : ℕ → Bool
digit b = between 48 57 b

-- a minus stands in front
unfoldable pub minus : List ℕ → Bool
minus [] = false
minus (b ∷ w) = eqb b 45

-- the text without a minus in front
unfoldable pub unsigned : List ℕ → List ℕ
unsigned [] = []
unsigned (b ∷ w) = cond (eqb b 45) w (b ∷ w)

-- one to four digits
unfoldable pub fraction : List ℕ → Bool
fraction w = between 1 4 (length w) && every digit w

-- behind a digit: more of them, then a point and the digits after it
unfoldable pub behind_digit : List ℕ → Bool
behind_digit [] = false
behind_digit (b ∷ w) = cond (eqb b 46) (fraction w) (digit b && behind_digit w)

unfoldable pub begins_with_digit : List ℕ → Bool
begins_with_digit [] = false
begins_with_digit (b ∷ w) = digit b && behind_digit w

-- the whole text: an optional minus, one or more digits, a point, one to four digits
unfoldable pub well_formed : List ℕ → Bool
well_formed w = begins_with_digit (unsigned w)

-- the digit at an index, 0 where there is none
abbrev pub digit_at : List ℕ → ℕ → ℕ
digit_at w i = get_or w i 0 - 48

-- a whole number and the digits after the point, in ten-thousandths
unfoldable pub with_fraction : ℕ → List ℕ → ℕ
with_fraction n w = n * 10000 + (digit_at w 0 * 1000 + digit_at w 1 * 100 + digit_at w 2 * 10 + digit_at w 3)

-- the same, with digits before the point that follow those of n
unfoldable pub ten_thousandths : ℕ → List ℕ → ℕ
ten_thousandths n [] = with_fraction n []
ten_thousandths n (b ∷ w) = cond (eqb b 46) (with_fraction n w) (ten_thousandths (n * 10 + (b - 48)) w)

abbrev pub signed : Bool → ℕ → ℤ
signed negative n = cond negative (neg_ℤ (pos n)) (pos n)

-- the number of ten-thousandths that a text stands for, however large
unfoldable pub value_of : List ℕ → ℤ
value_of w = signed (minus w) (ten_thousandths 0 (unsigned w))

-- -2^63 to 2^63 - 1
unfoldable pub in_range : ℤ → Bool
in_range z = le_z (neg_ℤ (pos (2 ^ 63))) z && lt_z z (pos (2 ^ 63))

unfoldable pub held : ℤ → Decimal
held z = cond (in_range z) (Ok z) (Err DecimalOutOfRange)

-- what a text is: malformed, well formed but beyond 64 bits, or a value
unfoldable pub decimal_of : List ℕ → Decimal
decimal_of w = cond (well_formed w) (held (value_of w)) (Err MalformedDecimal)

-- the value, or the refusal
unfoldable pub judged : Decimal → Reader ℤ
judged (Ok z) = pure z
judged (Err r) = refuse r

-- a field of a record: refused as a plain string is, then as a decimal
unfoldable pub decimal_text : Reader ℤ
decimal_text = do
  w ← string_of plain
  judged (decimal_of w)

-- the last k digits of a number
unfoldable pub last_digits : ℕ → ℕ → List ℕ
last_digits zero n = []
last_digits (suc k) n = last_digits k (n / 10) ++ ((48 + n % 10) ∷ [])

-- how many digits a number has without leading zeros; `last` says that it is one digit, and `most` bounds how many more there are
unfoldable pub count_digits : ℕ → Bool → ℕ → ℕ
count_digits zero last n = 1
count_digits (suc most) true n = 1
count_digits (suc most) false n = 1 + count_digits most (ltb (n / 10) 10) (n / 10)

abbrev pub places : ℕ → ℕ
places n = count_digits n (ltb n 10) n

-- the digits of a number without leading zeros, `0` for 0
unfoldable pub numeral : ℕ → List ℕ
numeral n = last_digits (places n) n

unfoldable pub sign : ℤ → List ℕ
sign (pos n) = []
sign (negsuc n) = 45 ∷ []

-- a number of ten-thousandths: the whole part, a point, four digits
unfoldable pub shown : ℕ → List ℕ
shown n = numeral (n / 10000) ++ (46 ∷ last_digits 4 (n % 10000))

-- with a minus only below zero
unfoldable pub written : ℤ → List ℕ
written z = sign z ++ shown (nat_abs z)

-- what stands after the first point
unfoldable pub after_point : List ℕ → List ℕ
after_point [] = []
after_point (b ∷ w) = cond (eqb b 46) w (after_point w)
