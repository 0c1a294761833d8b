-- The digits of a number: how many there are. Assumes nothing.
use Rattle.std.specs.Prelude.{◌≡◌, refl, [], ◌∷◌, Bool, true, false, ℕ, zero, suc, ◌+◌, ◌-◌, ◌*◌, ◌/◌, ◌%◌, ◌^◌, ◌≤◌, ◌<◌, ltb, ℤ, pos, negsuc, nat_abs, length}
use Rattle.std.proofs.Common.{sym, ap, ◌∙◌, arith, pow-suc, one-add, lt-ltb, le-ltb, ltb-true, ltb-false, lit<, length-append}
use Rattle.std.proofs.lemmas.Bool.{false≢true}
use Rattle.std.proofs.Math.Nat.{pow-le-pow_right}
use Rattle.std.specs.Int.Signed.{lt_z}
use Rattle.decimal.specs.Decimal.{last_digits, count_digits, places, numeral, sign, shown, written}

pub length_last : (k n : ℕ) → length (last_digits k n) ≡ k
unfolding last_digits
length_last zero n = refl
length_last (suc k) n = length-append (last_digits k (n / 10)) ((48 + n % 10) ∷ []) ∙ omega (arith, length_last k (n / 10))

abbrev pub places_up_to : ℕ → ℕ → ℕ
places_up_to k n = count_digits k (ltb n 10) n

-- by whether there is one digit or more
by_digits : (n : ℕ) (P : Type 0) → (n < 10 → P) → (10 ≤ n → P) → P
by_digits n P few many = go (ltb n 10) refl
  where
    go : (b : Bool) → ltb n 10 ≡ b → P
    go true e = few (ltb-true n 10 e)
    go false e = many (ltb-false n 10 e)

pub places_one : (k n : ℕ) → n < 10 → places_up_to k n ≡ 1
unfolding count_digits
places_one zero n h = refl
places_one (suc k) n h = rw (lt-ltb _ _ h)

-- more room than enough changes nothing
pub enough : (k m n : ℕ) → n ≤ k → n ≤ m → places_up_to k n ≡ places_up_to m n
unfolding count_digits
enough zero m n h i = places_one zero n (omega arith) ∙ sym (places_one m n (omega arith))
enough (suc k) zero n h i = places_one (suc k) n (omega arith) ∙ sym (places_one zero n (omega arith))
enough (suc k) (suc m) n h i =
    by_digits n _ (λ l. rw (lt-ltb _ _ l))
    (λ l. rw (le-ltb _ _ l) (ap (λ (x : ℕ). 1 + x) (enough k m (n / 10) (omega arith) (omega arith))))

pub places_more : (n : ℕ) → 10 ≤ n → places n ≡ 1 + places (n / 10)
unfolding count_digits
places_more zero h = absurd (omega arith)
places_more (suc k) h = rw (le-ltb _ _ h) (ap (λ (x : ℕ). 1 + x) (enough k (suc k / 10) (suc k / 10) (omega arith) (omega arith)))

one_at_least : (k n : ℕ) → 1 ≤ places_up_to k n
unfolding count_digits
one_at_least zero n = omega arith
one_at_least (suc k) n = by_digits n _ (λ h. rw (lt-ltb _ _ h) (omega arith)) (λ h. rw (le-ltb _ _ h) (omega arith))

pub places_some : (n : ℕ) → places n ≡ suc (places n - 1)
places_some n = omega (arith, one_at_least n n)

more : {n : ℕ} (p : ℕ) → n / 10 < 10 ^ p → n < 10 ^ (1 + p)
more {n} p h = rw (one-add p) (omega (arith, pow-suc 10 p, h))

-- as many as the number needs
hold : (k n : ℕ) → n ≤ k → n < 10 ^ places_up_to k n
unfolding count_digits
hold zero n h = omega arith
hold (suc k) n h =
    by_digits n _ (λ l. rw (lt-ltb _ _ l) (omega arith))
    (λ l. rw (le-ltb _ _ l) (more (places_up_to k (n / 10)) (hold k (n / 10) (omega arith))))

pub places_hold : (n : ℕ) → n < 10 ^ places n
places_hold n = hold n n (omega arith)

-- and no more
pub places_least : (k n j : ℕ) → n < 10 ^ j → 1 ≤ j → places_up_to k n ≤ j
unfolding count_digits
places_least zero n j h l = l
places_least (suc k) n zero h l = absurd (omega arith)
places_least (suc k) n (suc zero) h l = rw (lt-ltb n 10 (omega arith)) (omega arith)
places_least (suc k) n (suc (suc j)) h l =
    by_digits n _ (λ i. rw (lt-ltb _ _ i) (omega arith))
    (λ i. rw (le-ltb _ _ i) (omega (arith, places_least k (n / 10) (suc j) (omega (arith, pow-suc 10 (suc j))) (omega arith))))

few : (k n : ℕ) → places_up_to k n ≤ n + 1
unfolding count_digits
few zero n = omega arith
few (suc k) n =
    by_digits n _ (λ l. rw (lt-ltb _ _ l) (omega arith))
    (λ l. rw (le-ltb _ _ l) (omega (arith, few k (n / 10))))

pub places_few : (n : ℕ) → places n ≤ n + 1
places_few n = few n n

-- between two powers of ten there are as many as the lower power says, and one
pub places_power : (n k : ℕ) → 10 ^ k ≤ n → n < 10 * 10 ^ k → k + 1 ≡ places n
places_power n k h l = go (ltb k (places n)) refl
  where
    most : places n ≤ suc k
    most = places_least n n (suc k) (omega (arith, pow-suc 10 k, l)) (omega arith)

    go : (b : Bool) → ltb k (places n) ≡ b → k + 1 ≡ places n
    go true e = let i = ltb-true _ _ e in omega (arith, most, i)
    go false e =
        let i = ltb-false _ _ e in
        absurd (omega (arith, places_hold n, h, pow-le-pow_right {n = 10} (lit< tt) i))

pub power_few : (n k : ℕ) → 10 ^ k ≤ n → n < 10 * 10 ^ k → k + 1 ≤ n + 1
power_few n k h l = omega (arith, places_power n k h l, places_few n)

pub one_place : (n : ℕ) → n ≡ 0 → 1 ≡ places n
one_place n e = sym (places_one n n (omega arith))

pub length_shown : (n : ℕ) → length (shown n) ≡ places (n / 10000) + 5
unfolding shown numeral
length_shown n =
    length-append (last_digits (places (n / 10000)) (n / 10000)) (46 ∷ last_digits 4 (n % 10000))
    ∙ omega (arith, length_last (places (n / 10000)) (n / 10000), length_last 4 (n % 10000))

pub written_below : (z : ℤ) → lt_z z (pos 0) ≡ true → written z ≡ 45 ∷ shown (nat_abs z)
unfolding written sign
written_below (pos n) e = absurd (false≢true (sym (le-ltb n 0 (omega arith)) ∙ e))
written_below (negsuc n) e = refl

pub written_above : (z : ℤ) → lt_z z (pos 0) ≡ false → written z ≡ shown (nat_abs z)
unfolding written sign
written_above (pos n) e = refl
written_above (negsuc n) e = absurd (false≢true (sym e))
