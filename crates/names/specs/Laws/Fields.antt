-- Laws of fields: the digits of a number, and the number of some digits. Assumes nothing.
use Rattle.std.specs.Prelude.{◌≡◌, refl, List, [], ◌∷◌, ◌++◌, ℕ, zero, suc, ◌+◌, ◌*◌, ◌/◌, ◌%◌, ◌<◌, length, take, drop}
use Rattle.std.proofs.Common.{ap, ◌∙◌, arith, length-append, take_at, drop_at}
use Rattle.std.specs.Int.{w16, w32, w64, to_be_bytes}
use Rattle.names.specs.Fields.{number, digits}

number_snoc : (n : ℕ) (w : List ℕ) (d : ℕ) → number n (w ++ (d ∷ [])) ≡ number n w * 256 + d
unfolding number
number_snoc n [] d = refl
number_snoc n (b ∷ w) d = number_snoc (n * 256 + b) w d

-- a number is what its digits say, whether it fits in them or not
pub number_digits : (k n : ℕ) → number 0 (digits (suc k) n) ≡ n
unfolding digits number
number_digits zero n = omega arith
number_digits (suc k) n = number_snoc 0 (digits (suc k) (n / 256)) (n % 256) ∙ rw (number_digits k (n / 256)) (omega arith)

-- of a number that fits, the first digit is a byte as the others are
pub two_digits : (n : ℕ) → n < 65536 → digits 2 n ≡ n / 256 % 256 ∷ n % 256 ∷ []
unfolding digits
two_digits n h =
    let e : n / 256 ≡ n / 256 % 256 = omega arith in
    ap (λ (d : ℕ). d ∷ n % 256 ∷ []) e

pub four_digits : (n : ℕ) → n < 4294967296 → digits 4 n ≡ n / 256 / 256 / 256 % 256 ∷ n / 256 / 256 % 256 ∷ n / 256 % 256 ∷ n % 256 ∷ []
unfolding digits
four_digits n h =
    let e : n / 256 / 256 / 256 ≡ n / 256 / 256 / 256 % 256 = omega arith in
    ap (λ (d : ℕ). d ∷ n / 256 / 256 % 256 ∷ n / 256 % 256 ∷ n % 256 ∷ []) e

-- these digits are the library's `to_be_bytes`
pub two_bytes : (n : ℕ) → n < 65536 → digits 2 n ≡ to_be_bytes w16 n
unfolding digits
two_bytes n h =
    let e : n / 256 ≡ n / 256 % 256 = omega arith in
    ap (λ (d : ℕ). d ∷ n % 256 ∷ []) e

pub four_bytes : (n : ℕ) → n < 4294967296 → digits 4 n ≡ to_be_bytes w32 n
unfolding digits
four_bytes n h =
    let a : n / 256 / 256 / 256 ≡ n / 16777216 % 256 = omega arith in
    let b : n / 256 / 256 % 256 ≡ n / 65536 % 256 = omega arith in
    λ i. a i ∷ b i ∷ n / 256 % 256 ∷ n % 256 ∷ []

pub eight_bytes : (n : ℕ) → n < 18446744073709551616 → digits 8 n ≡ to_be_bytes w64 n
unfolding digits
eight_bytes n h =
    let a : n / 256 / 256 / 256 / 256 / 256 / 256 / 256 ≡ n / 72057594037927936 % 256 = omega arith in
    let b : n / 256 / 256 / 256 / 256 / 256 / 256 % 256 ≡ n / 281474976710656 % 256 = omega arith in
    let c : n / 256 / 256 / 256 / 256 / 256 % 256 ≡ n / 1099511627776 % 256 = omega arith in
    let d : n / 256 / 256 / 256 / 256 % 256 ≡ n / 4294967296 % 256 = omega arith in
    let e : n / 256 / 256 / 256 % 256 ≡ n / 16777216 % 256 = omega arith in
    let f : n / 256 / 256 % 256 ≡ n / 65536 % 256 = omega arith in
    λ i. a i ∷ b i ∷ c i ∷ d i ∷ e i ∷ f i ∷ n / 256 % 256 ∷ n % 256 ∷ []

-- eight digits are those of the two halves
pub eight_digits : (n : ℕ) → digits 4 (n / 4294967296) ++ digits 4 (n % 4294967296) ≡ digits 8 n
unfolding digits
eight_digits n =
    let h = n / 4294967296 in
    let l = n % 4294967296 in
    let a : h / 256 / 256 / 256 ≡ n / 256 / 256 / 256 / 256 / 256 / 256 / 256 = omega arith in
    let b : h / 256 / 256 % 256 ≡ n / 256 / 256 / 256 / 256 / 256 / 256 % 256 = omega arith in
    let c : h / 256 % 256 ≡ n / 256 / 256 / 256 / 256 / 256 % 256 = omega arith in
    let d : h % 256 ≡ n / 256 / 256 / 256 / 256 % 256 = omega arith in
    let e : l / 256 / 256 / 256 ≡ n / 256 / 256 / 256 % 256 = omega arith in
    let f : l / 256 / 256 % 256 ≡ n / 256 / 256 % 256 = omega arith in
    let g : l / 256 % 256 ≡ n / 256 % 256 = omega arith in
    let z : l % 256 ≡ n % 256 = omega arith in
    λ i. a i ∷ b i ∷ c i ∷ d i ∷ e i ∷ f i ∷ g i ∷ z i ∷ []

pub length_digits : (k n : ℕ) → length (digits k n) ≡ k
unfolding digits
length_digits zero n = refl
length_digits (suc zero) n = refl
length_digits (suc (suc k)) n = simp (length-append, length_digits (suc k) (n / 256)) (omega arith)

-- where bytes begin with the digits of a number: the number, and what follows
module _ (k n : ℕ) (s : List ℕ) where
  pub number_front : number 0 (take (suc k) (digits (suc k) n ++ s)) ≡ n
  number_front = rw (take_at (digits (suc k) n) s (suc k) (length_digits (suc k) n)) (number_digits k n)

  pub behind_digits : drop k (digits k n ++ s) ≡ s
  behind_digits = drop_at (digits k n) s k (length_digits k n)
