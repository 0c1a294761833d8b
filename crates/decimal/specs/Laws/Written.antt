-- What is written, read: it is well formed and has the number's value. Assumes nothing.
use Rattle.std.specs.Prelude.{◌≡◌, refl, List, [], ◌∷◌, ◌++◌, Bool, true, false, cond, ◌&&◌, ℕ, zero, suc, ◌+◌, ◌*◌, ◌-◌, ◌/◌, ◌%◌, ◌^◌, ◌<◌, eqb, length, ℤ, pos, negsuc}
use Rattle.std.proofs.Common.{sym, ap, ap₂, ◌∙◌, append_assoc, pow-suc}
use Rattle.std.proofs.lemmas.Bool.{false≢true}
use native.Mathlib.Omega.{arith}
use borrow.Author.Tests.{le-leb, ne_eqb, eqb-true}
use Rattle.names.specs.Lists.{every}
use Rattle.decimal.specs.Decimal.{digit, minus, unsigned, fraction, behind_digit, begins_with_digit, well_formed, with_fraction, ten_thousandths, signed, value_of, last_digits, places, numeral, sign, shown, written, after_point}
use Rattle.decimal.specs.Laws.Digits.{length_last, places_some, places_hold}

-- ---- one digit

module _ (m : ℕ) (h : m < 10) where
  digit_byte : digit (48 + m) ≡ true
  unfolding digit
  digit_byte = rw (le-leb 48 (48 + m) (omega arith), le-leb (48 + m) 57 (omega arith))

  no_point : eqb (48 + m) 46 ≡ false
  no_point = ne_eqb (48 + m) 46 (λ e. omega arith)

  read_behind : (v : List ℕ) → behind_digit ((48 + m) ∷ v) ≡ behind_digit v
  unfolding behind_digit
  read_behind v = rw (no_point, digit_byte)

  read_value : (n : ℕ) (v : List ℕ) → ten_thousandths n ((48 + m) ∷ v) ≡ ten_thousandths (n * 10 + m) v
  unfolding ten_thousandths
  read_value n v = let e : 48 + m - 48 ≡ m = omega arith in rw (no_point, e)

last_one : (k n : ℕ) (v : List ℕ) → last_digits (suc k) n ++ v ≡ last_digits k (n / 10) ++ ((48 + n % 10) ∷ v)
unfolding last_digits
last_one k n v = append_assoc (last_digits k (n / 10)) ((48 + n % 10) ∷ []) v

-- ---- the digits of a number

behind_digits : (k n : ℕ) (v : List ℕ) → behind_digit (last_digits k n ++ v) ≡ behind_digit v
unfolding last_digits
behind_digits zero n v = refl
behind_digits (suc k) n v =
    ap behind_digit (last_one k n v) ∙ behind_digits k (n / 10) ((48 + n % 10) ∷ v) ∙ read_behind (n % 10) (omega arith) v

begins_digits : (k n : ℕ) (v : List ℕ) → begins_with_digit (last_digits (suc k) n ++ v) ≡ behind_digit v
unfolding last_digits begins_with_digit
begins_digits zero n v = rw (digit_byte (n % 10) (omega arith))
begins_digits (suc k) n v =
    ap begins_with_digit (last_one (suc k) n v) ∙ begins_digits k (n / 10) ((48 + n % 10) ∷ v) ∙ read_behind (n % 10) (omega arith) v

value_digits : (k n : ℕ) → n < 10 ^ k → (v : List ℕ) → ten_thousandths 0 (last_digits k n ++ v) ≡ ten_thousandths n v
unfolding last_digits
value_digits zero n h v = let e : n ≡ 0 = omega arith in rw e
value_digits (suc k) n h v =
    let s : n / 10 < 10 ^ k = omega (arith, pow-suc 10 k) in
    let e : n / 10 * 10 + n % 10 ≡ n = omega arith in
    ap (ten_thousandths 0) (last_one k n v)
    ∙ value_digits k (n / 10) s ((48 + n % 10) ∷ v)
    ∙ read_value (n % 10) (omega arith) (n / 10) v
    ∙ ap (λ (m : ℕ). ten_thousandths m v) e

-- ---- a number of ten-thousandths

four_digits : (m : ℕ) → fraction (last_digits 4 m) ≡ true
unfolding fraction last_digits every
four_digits m = rw (digit_byte (m % 10) (omega arith), digit_byte (m / 10 % 10) (omega arith), digit_byte (m / 10 / 10 % 10) (omega arith), digit_byte (m / 10 / 10 / 10 % 10) (omega arith))

four_value : (n m : ℕ) → m < 10000 → with_fraction n (last_digits 4 m) ≡ n * 10000 + m
unfolding with_fraction last_digits
four_value n m h = omega arith

pub shown_formed : (n : ℕ) → begins_with_digit (shown n) ≡ true
unfolding shown numeral behind_digit
shown_formed n =
    let q = n / 10000 in
    let v : List ℕ = 46 ∷ last_digits 4 (n % 10000) in
    ap (λ (k : ℕ). begins_with_digit (last_digits k q ++ v)) (places_some q) ∙ begins_digits (places q - 1) q v ∙ four_digits (n % 10000)

pub shown_value : (n : ℕ) → ten_thousandths 0 (shown n) ≡ n
unfolding shown numeral ten_thousandths
shown_value n =
    let q = n / 10000 in
    value_digits (places q) q (places_hold q) (46 ∷ last_digits 4 (n % 10000)) ∙ four_value q (n % 10000) (omega arith) ∙ omega arith

-- ---- a minus stands in front of no digit

low : (b : ℕ) → b ≡ 45 → (w : List ℕ) → (digit b && behind_digit w) ≡ false
unfolding digit
low b i w = rw i

no_minus : (w : List ℕ) → begins_with_digit w ≡ true → (minus w ≡ false) × (unsigned w ≡ w)
unfolding begins_with_digit minus unsigned
no_minus [] e = absurd (false≢true e)
no_minus (b ∷ w) e = go (eqb b 45) refl
  where
    go : (t : Bool) → eqb b 45 ≡ t → (eqb b 45 ≡ false) × (cond (eqb b 45) w (b ∷ w) ≡ b ∷ w)
    go false i = (i, rw i)
    go true i = absurd (false≢true (sym (low b (eqb-true b 45 i) w) ∙ e))

pub value_written : (z : ℤ) → value_of (written z) ≡ z
unfolding value_of written sign minus unsigned
value_written (pos n) =
    let p = no_minus (shown n) (shown_formed n) in
    ap₂ signed p.0 (ap (ten_thousandths 0) p.1 ∙ shown_value n)
value_written (negsuc n) = ap (signed true) (shown_value (suc n))

pub written_formed : (z : ℤ) → well_formed (written z) ≡ true
unfolding well_formed written sign unsigned
written_formed (pos n) = ap begins_with_digit (no_minus (shown n) (shown_formed n)).1 ∙ shown_formed n
written_formed (negsuc n) = shown_formed (suc n)

-- ---- four digits stand after the point

after_digits : (k n : ℕ) (v : List ℕ) → after_point (last_digits k n ++ (46 ∷ v)) ≡ v
unfolding after_point last_digits
after_digits k n v = go k n (46 ∷ v)
  where
    go : (k n : ℕ) (u : List ℕ) → after_point (last_digits k n ++ u) ≡ after_point u
    go zero n u = refl
    go (suc k) n u = ap after_point (last_one k n u) ∙ go k (n / 10) ((48 + n % 10) ∷ u) ∙ rw (no_point (n % 10) (omega arith))

shown_four : (n : ℕ) → length (after_point (shown n)) ≡ 4
unfolding shown numeral
shown_four n = ap length (after_digits (places (n / 10000)) (n / 10000) (last_digits 4 (n % 10000))) ∙ length_last 4 (n % 10000)

pub written_four : (z : ℤ) → length (after_point (written z)) ≡ 4
unfolding written sign after_point
written_four (pos n) = shown_four n
written_four (negsuc n) = shown_four (suc n)
