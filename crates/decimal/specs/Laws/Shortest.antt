-- No text with four digits after the point and the same value is shorter than the one that is written. Assumes nothing.
use Rattle.std.specs.Prelude.{◌≡◌, refl, List, [], ◌∷◌, Bool, ◌&&◌, leb, pos, neg_ℤ}
use Rattle.std.proofs.Common.{ap, ◌∙◌, arith, pow-suc, mul_assoc, mul-le-mul_right, one-mul}
use Rattle.std.proofs.Math.Bool.{true, false}
use Rattle.std.proofs.lemmas.Bool.{false≢true}
use Prim.Native.Nat.{ℕ, zero, suc, ◌+◌, ◌*◌, ◌-◌, ◌/◌, ◌^◌, ◌≤◌, ◌<◌}
use borrow.Author.Tests.{leb-true, eqb-true, ne_eqb}
use Rattle.std.proofs.Math.Dec.{eqb}
use Rattle.std.proofs.Math.ListN.{length}
use Rattle.names.specs.Lists.{every}
use Rattle.decimal.specs.Decimal.{digit, minus, unsigned, fraction, behind_digit, begins_with_digit, well_formed, with_fraction, ten_thousandths, value_of, sign, shown, written, after_point}
use Rattle.decimal.specs.Laws.Digits.{places_least, length_shown}

both : (a b : Bool) → (a && b) ≡ true → (a ≡ true) × (b ≡ true)
both true b e = (refl, e)
both false b e = absurd (false≢true e)

-- a digit is worth at most 9
nine : (b : ℕ) → digit b ≡ true → b - 48 ≤ 9
unfolding digit
nine b e = omega (arith, leb-true b 57 (both (leb 48 b) (leb b 57) e).1)

four : (n : ℕ) (w : List ℕ) → length w ≡ 4 → fraction w ≡ true → with_fraction n w < (n + 1) * 10000
unfolding fraction every with_fraction
four n [] l e = absurd (omega arith)
four n (a ∷ []) l e = absurd (omega arith)
four n (a ∷ b ∷ []) l e = absurd (omega arith)
four n (a ∷ b ∷ c ∷ []) l e = absurd (omega arith)
four n (a ∷ b ∷ c ∷ d ∷ []) l e =
    let p = both (digit a) _ e in
    let q = both (digit b) _ p.1 in
    let r = both (digit c) _ q.1 in
    omega (arith, nine a p.0, nine b q.0, nine c r.0, nine d (both (digit d) _ r.1).0)
four n (a ∷ b ∷ c ∷ d ∷ x ∷ w) l e = absurd (omega arith)

-- so many digits before the point, and what the whole can then be worth
record Bounded (n : ℕ) (u : List ℕ) : Type 0 where
  before : ℕ
  long : length u ≡ before + 5
  value : ten_thousandths n u < (n + 1) * (10 ^ before * 10000)

-- ten of one place are one of the next
carry : (n d k t : ℕ) → d ≤ 9 → t < (n * 10 + d + 1) * (10 ^ k * 10000) → t < (n + 1) * (10 ^ suc k * 10000)
carry n d k t h l =
    let q = 10 ^ k * 10000 in
    let e : 10 * q ≡ 10 ^ suc k * 10000 = omega (arith, pow-suc 10 k) in
    let m : (n * 10 + d + 1) * q ≤ (n + 1) * 10 * q = mul-le-mul_right q (omega arith) in
    let a : (n + 1) * 10 * q ≡ (n + 1) * (10 ^ suc k * 10000) = mul_assoc (n + 1) 10 q ∙ ap (λ (x : ℕ). (n + 1) * x) e in
    omega (arith, l, m, a)

module _ (b : ℕ) (w : List ℕ) (n : ℕ) where
  at_point : eqb b 46 ≡ true → behind_digit (b ∷ w) ≡ true → length (after_point (b ∷ w)) ≡ 4 → Bounded n (b ∷ w)
  unfolding behind_digit after_point ten_thousandths
  at_point i e l =
      let e' : fraction w ≡ true = rw i at e in
      let l' : length w ≡ 4 = rw i at l in
      record { before = 0; long = omega (arith, l'); value = rw i (four n w l' e') }

  at_digit : eqb b 46 ≡ false → behind_digit (b ∷ w) ≡ true → length (after_point (b ∷ w)) ≡ 4
      → (behind_digit w ≡ true → length (after_point w) ≡ 4 → Bounded (n * 10 + (b - 48)) w) → Bounded n (b ∷ w)
  unfolding behind_digit after_point ten_thousandths
  at_digit i e l rest =
      let e' : (digit b && behind_digit w) ≡ true = rw i at e in
      let l' : length (after_point w) ≡ 4 = rw i at l in
      let d = both (digit b) (behind_digit w) e' in
      let r = rest d.1 l' in
      record {
        before = suc r.before;
        long = omega (arith, r.long);
        value = rw i (carry n (b - 48) r.before (ten_thousandths (n * 10 + (b - 48)) w) (nine b d.0) r.value);
      }

bounded : (u : List ℕ) (n : ℕ) → behind_digit u ≡ true → length (after_point u) ≡ 4 → Bounded n u
unfolding behind_digit
bounded [] n e l = absurd (false≢true e)
bounded (b ∷ w) n e l = go (eqb b 46) refl (bounded w (n * 10 + (b - 48)))
  where
    go : (t : Bool) → eqb b 46 ≡ t → (behind_digit w ≡ true → length (after_point w) ≡ 4 → Bounded (n * 10 + (b - 48)) w) → Bounded n (b ∷ w)
    go true i rest = at_point b w n i e l
    go false i rest = at_digit b w n i e l rest

-- a digit is no point
digit_no_point : (b : ℕ) → digit b ≡ true → eqb b 46 ≡ false
unfolding digit
digit_no_point b e = ne_eqb b 46 (λ i. omega (arith, leb-true 48 b (both (leb 48 b) (leb b 57) e).0))

-- the digits of the value's whole part are at most those of the text
shown_least : (u : List ℕ) → begins_with_digit u ≡ true → length (after_point u) ≡ 4 → length (shown (ten_thousandths 0 u)) ≤ length u
unfolding begins_with_digit after_point ten_thousandths
shown_least [] e l = absurd (false≢true e)
shown_least (b ∷ w) e l =
    let d = both (digit b) (behind_digit w) e in
    let i = digit_no_point b d.0 in
    let l' : length (after_point w) ≡ 4 = rw i at l in
    let r = bounded w (0 * 10 + (b - 48)) d.1 l' in
    let t = ten_thousandths (0 * 10 + (b - 48)) w in
    let v : t < (0 + 1) * (10 ^ suc r.before * 10000) = carry 0 (b - 48) r.before t (nine b d.0) r.value in
    let h : t / 10000 < 10 ^ suc r.before = omega (arith, v, one-mul (10 ^ suc r.before * 10000)) in
    rw i (omega (arith, length_shown t, r.long, places_least (t / 10000) (t / 10000) (suc r.before) h (omega arith)))

minus_one : (n : ℕ) → length (written (neg_ℤ (pos n))) ≤ 1 + length (shown n)
unfolding written sign
minus_one zero = omega arith
minus_one (suc n) = omega arith

module _ (b : ℕ) (w : List ℕ) where
  with_minus : eqb b 45 ≡ true → well_formed (b ∷ w) ≡ true → length (after_point (b ∷ w)) ≡ 4 → length (written (value_of (b ∷ w))) ≤ length (b ∷ w)
  unfolding well_formed unsigned minus value_of after_point
  with_minus i e l =
      let p : eqb b 46 ≡ false = ne_eqb b 46 (λ j. omega (arith, eqb-true b 45 i)) in
      let e' : begins_with_digit w ≡ true = rw i at e in
      let l' : length (after_point w) ≡ 4 = rw p at l in
      rw i (omega (arith, minus_one (ten_thousandths 0 w), shown_least w e' l'))

  without : eqb b 45 ≡ false → well_formed (b ∷ w) ≡ true → length (after_point (b ∷ w)) ≡ 4 → length (written (value_of (b ∷ w))) ≤ length (b ∷ w)
  unfolding well_formed unsigned minus value_of written sign
  without i e l =
      let e' : begins_with_digit (b ∷ w) ≡ true = rw i at e in
      rw i (shown_least (b ∷ w) e' l)

pub written_least : (w : List ℕ) → well_formed w ≡ true → length (after_point w) ≡ 4 → length (written (value_of w)) ≤ length w
unfolding well_formed unsigned begins_with_digit
written_least [] e l = absurd (false≢true e)
written_least (b ∷ w) e l = go (eqb b 45) refl
  where
    go : (t : Bool) → eqb b 45 ≡ t → length (written (value_of (b ∷ w))) ≤ length (b ∷ w)
    go true i = with_minus b w i e l
    go false i = without b w i e l
