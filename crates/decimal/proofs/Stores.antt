-- The text of a number, stored part by part. Assumes nothing.
use mathlib.Core.Path.{◌≡◌, refl, sym, ap, ◌∙◌}
use mathlib.Core.List.{List, [], ◌∷◌, ◌++◌}
use mathlib.Core.Bool.{Bool, true, false}
use Prim.Native.Nat.{ℕ, zero, suc, ◌+◌, ◌-◌, ◌/◌, ◌%◌, ◌≤◌, ◌<◌}
use native.Mathlib.Omega.{arith}
use borrow.Author.Rules.{rules}
use lib.ListN.{length, set, length-set}
use lib.IntN.{ℤ, pos, nat_abs}
use lib.Signed.{lt_z}
use mir.Syntax.{w64}
use mir.Val.{to_z, of_z, SFits}
use mir.ValLaws.{to_z-of_z}
use lib.Seq.{sets-eq}
use Rattle.names.specs.Writer.{store, Stored}
use Rattle.names.specs.Laws.Writers.{stored_none, stored_more, stored_length}
use Rattle.decimal.specs.Decimal.{last_digits, places, numeral, shown, written}
use Rattle.decimal.specs.Laws.Digits.{length_last, length_shown, written_below, written_above}

one_byte : (s : List ℕ) (at b : ℕ) → at < length s → Stored s at (b ∷ []) (set s at b) (at + 1)
unfolding store
one_byte s at b h = record { room = omega arith; next = refl; bytes = sets-eq (b ∷ []) s at (omega arith) }

-- ---- the last digits of a number

module _ (s : List ℕ) (at count n : ℕ) (room : at + count ≤ length s) where
  pub none_stored : count ≡ 0 → Stored s at (last_digits count n) s at
  unfolding last_digits
  none_stored e = rw e (stored_none s at (omega arith))

  module _ (more : count ≡ 0 → ⊥) where
    pub some_left : 1 ≤ count
    some_left = go count more
      where
        go : (k : ℕ) → (k ≡ 0 → ⊥) → 1 ≤ k
        go zero h = absurd (h refl)
        go (suc k) h = omega arith

    pub less_room : at + (count - 1) ≤ length s
    less_room = omega arith

    module _ (t : List ℕ) (m : ℕ) (first : Stored s at (last_digits (count - 1) (n / 10)) t m) where
      pub digit_room : m < length t
      digit_room = omega (arith, some_left, first.next, length_last (count - 1) (n / 10), stored_length first)

      pub digits_length : length (set t m (48 + n % 10)) ≡ length s
      digits_length = length-set t m (48 + n % 10) ∙ stored_length first

      whole : last_digits count n ≡ last_digits (count - 1) (n / 10) ++ ((48 + n % 10) ∷ [])
      unfolding last_digits
      whole = go count more
        where
          go : (k : ℕ) → (k ≡ 0 → ⊥) → last_digits k n ≡ last_digits (k - 1) (n / 10) ++ ((48 + n % 10) ∷ [])
          go zero h = absurd (h refl)
          go (suc k) h = let e : suc k - 1 ≡ k = omega arith in rw e

      pub digits_stored : Stored s at (last_digits count n) (set t m (48 + n % 10)) (m + 1)
      digits_stored = rw whole (stored_more first (one_byte t m (48 + n % 10) digit_room))

pub ruleset digits = (rules, none_stored, some_left, less_room, digit_room, digits_length, digits_stored)

-- ---- the whole part, the point, the four digits

module _ (s : List ℕ) (at n : ℕ) (room : at + length (shown n) ≤ length s) (p : ℕ) (is : (p ≡ places (n / 10000)) × (p ≤ n / 10000 + 1)) where
  pub whole_room : at + p ≤ length s
  whole_room = omega (arith, is.0, length_shown n)

  module _ (t : List ℕ) (m : ℕ) (first : Stored s at (last_digits p (n / 10000)) t m) where
    place : (m + 5 ≤ length s) × (length t ≡ length s)
    place = (omega (arith, is.0, length_shown n, first.next, length_last p (n / 10000)), stored_length first)

    pub point_room : m < length t
    point_room = omega (arith, place.0, place.1)

    pub fraction_room : m + 1 + 4 ≤ length (set t m 46)
    fraction_room = omega (arith, place.0, place.1, length-set t m 46)

    module _ (u : List ℕ) (r : ℕ) (second : Stored (set t m 46) (m + 1) (last_digits 4 (n % 10000)) u r) where
      pub shown_length : length u ≡ length s
      shown_length = stored_length second ∙ length-set t m 46 ∙ place.1

      pub shown_stored : Stored s at (shown n) u r
      unfolding shown numeral
      shown_stored = stored_more (rw is.0 at first) (stored_more (one_byte t m 46 point_room) second)

pub ruleset parts = (rules, whole_room, point_room, fraction_room, shown_length, shown_stored)

-- ---- the sign

module _ (z : ℤ) (f : SFits w64 z) (n : ℕ) (is : n ≡ nat_abs (to_z w64 (of_z w64 z))) where
  same : n ≡ nat_abs z
  same = is ∙ ap nat_abs (to_z-of_z w64 z f)

  below : (b : Bool) → b ≡ lt_z (to_z w64 (of_z w64 z)) (pos 0) → b ≡ true → written z ≡ 45 ∷ shown n
  below b test e = written_below z (ap (λ (y : ℤ). lt_z y (pos 0)) (sym (to_z-of_z w64 z f)) ∙ sym test ∙ e) ∙ ap (λ (m : ℕ). 45 ∷ shown m) (sym same)

  above : (b : Bool) → b ≡ lt_z (to_z w64 (of_z w64 z)) (pos 0) → b ≡ false → written z ≡ shown n
  above b test e = written_above z (ap (λ (y : ℤ). lt_z y (pos 0)) (sym (to_z-of_z w64 z f)) ∙ sym test ∙ e) ∙ ap shown (sym same)

  module _ (p : ℕ) (counted : (p ≡ places (n / 10000)) × (p ≤ n / 10000 + 1)) (b : Bool) (test : b ≡ lt_z (to_z w64 (of_z w64 z)) (pos 0)) where
    pub size_below : b ≡ true → p + 6 ≡ length (written z)
    size_below e = rw (below b test e) (omega (arith, counted.0, length_shown n))

    pub size_above : b ≡ false → p + 5 ≡ length (written z)
    size_above e = rw (above b test e) (omega (arith, counted.0, length_shown n))

  module _ (b : Bool) (test : b ≡ lt_z (to_z w64 (of_z w64 z)) (pos 0)) (s : List ℕ) (room : length (written z) ≤ length s) where
    module _ (e : b ≡ true) where
      long : 1 + length (shown n) ≤ length s
      long = omega (arith, rw (below b test e) at room)

      pub sign_room : 0 < length s
      sign_room = omega (arith, long)

      pub below_room : 1 + length (shown n) ≤ length (set s 0 45)
      below_room = omega (arith, long, length-set s 0 45)

      module _ (u : List ℕ) (r : ℕ) (rest : Stored (set s 0 45) 1 (shown n) u r) where
        pub below_length : length u ≡ length s
        below_length = stored_length rest ∙ length-set s 0 45

        pub below_stored : Stored s 0 (written z) u r
        below_stored = rw (below b test e) (stored_more (one_byte s 0 45 sign_room) rest)

    module _ (e : b ≡ false) where
      pub above_room : 0 + length (shown n) ≤ length s
      above_room = omega (arith, rw (above b test e) at room)

      pub above_stored : (u : List ℕ) (r : ℕ) → Stored s 0 (shown n) u r → Stored s 0 (written z) u r
      above_stored u r i = rw (above b test e) i

pub ruleset sizes = (rules, size_below, size_above)

pub ruleset signs = (rules, sign_room, below_room, below_length, below_stored, above_room, above_stored)
