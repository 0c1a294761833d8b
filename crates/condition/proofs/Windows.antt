-- Windows: each exit of their readers. Assumes nothing.
use mathlib.Core.Path.{◌≡◌, refl, sym, ap, ◌∙◌}
use mathlib.Core.Bool.{Bool, true, false, ◌&&◌}
use mathlib.Core.List.{List}
use Prim.Native.Nat.{ℕ, ◌+◌, ◌*◌, ◌/◌, ◌≤◌, ◌<◌}
use native.Mathlib.Nat.{div-le_self, div-lt_iff_lt-mul, le-div_iff_mul-le}
use native.Mathlib.Omega.{arith}
use borrow.Author.Rules.{rules}
use borrow.Author.Tests.{leb-true, leb-false, le-leb, lt-leb, lt-ltb, le-ltb, ne_eqb}
use lib.Dec.{leb}
use lib.ListN.{length, get_or, take, drop}
use Rattle.names.specs.Fields.{got, u64, i64, number, choose}
use Rattle.names.specs.Read.{ending, Read}
use Rattle.names.specs.Laws.Readers.{u8-end, u8_got, bytes-end, bytes_got, via, choice, choose_beyond, keys_up_to}
use Rattle.names.specs.Laws.Words.{WordAt}
use Rattle.condition.specs.Condition.{units, signed_bound, fits, amount_of, seconds_of, window_kinds, window}
use Rattle.condition.specs.Places.{UnitOf}
use Rattle.std.specs.Prelude.{Ok, Err}
use Rattle.names.specs.declared.refusal.Refusal.{Refusal}
use Rattle.condition.proofs.Leaves.{word_room, word_cut}
use Rattle.names.specs.declared.refusal.Refusal.TheVariants.{Cut, UndefinedChoice, WindowOutOfRange}

-- the units
module _ (k : ℕ) where
  unit-is : (n : ℕ) → 0 < n → ((s : _) (at : ℕ) → choose k units s at ≡ got n at) → UnitOf k n
  unit-is n h e = record { reads = e; some = h }

  pub in_seconds : k ≡ 0 → UnitOf k 1
  unfolding choose units
  in_seconds e = unit-is 1 (omega arith) (λ s at. rw e)

  pub in_minutes : k ≡ 1 → UnitOf k 60
  unfolding choose units
  in_minutes e = unit-is 60 (omega arith) (λ s at. rw e)

  pub in_hours : k ≡ 2 → UnitOf k 3600
  unfolding choose units
  in_hours e = unit-is 3600 (omega arith) (λ s at. rw e)

  pub in_days : k ≤ 3 → (k ≡ 0 → ⊥) → (k ≡ 1 → ⊥) → (k ≡ 2 → ⊥) → UnitOf k 86400
  unfolding choose units
  in_days h a b c = let e : k ≡ 3 = omega arith in unit-is 86400 (omega arith) (λ s at. rw e)

-- an amount
and-false : (b : Bool) → (b && false) ≡ false
and-false true = refl
and-false false = refl

module _ (unit n : ℕ) (some : 0 < unit) where
  unfit : 9223372036854775807 / unit < n → false ≡ fits unit n
  unfolding fits
  unfit j = let over : 9223372036854775807 < n * unit = (div-lt_iff_lt-mul some).0 j in rw (le-ltb (n * unit) signed_bound (omega arith), and-false)

  fit : n ≤ 9223372036854775807 / unit → true ≡ fits unit n
  unfolding fits
  fit j =
      let small = div-le_self 9223372036854775807 unit in
      let within : n * unit ≤ 9223372036854775807 = (le-div_iff_mul-le some).0 j in
      rw (lt-ltb n signed_bound (omega arith), lt-ltb (n * unit) signed_bound (omega arith))

  pub fitting : leb n (9223372036854775807 / unit) ≡ fits unit n
  fitting = go (leb n (9223372036854775807 / unit)) refl
    where
      go : (b : Bool) → leb n (9223372036854775807 / unit) ≡ b → b ≡ fits unit n
      go true e = fit (leb-true _ _ e)
      go false e = unfit (leb-false _ _ e)

module _ (s : List ℕ) (at unit : ℕ) (x : Read) (is : x ≡ ending (i64 s at)) where
  pub amount_stops : (r : Refusal) → x ≡ Err r → Err r ≡ ending (amount_of unit s at)
  unfolding amount_of u64 ending
  amount_stops r e =
      let cut = word_cut s at r (sym is ∙ e) in
      rw (sym cut.1, bytes-end s at 8 cut.0)

  module _ (n : ℕ) (e : x ≡ Ok n) where
    pub amount_room : at + 8 ≤ length s
    amount_room = (word_room s at n (sym is ∙ e)).0

    module _ (w : ℕ) (word : WordAt s at w) (b : Bool) (tells : b ≡ fits unit w) where
      told : fits unit (number 0 (take 8 (drop at s))) ≡ b
      told = ap (fits unit) (sym word.is) ∙ sym tells

      pub amount_beyond : b ≡ false → Err WindowOutOfRange ≡ ending (amount_of unit s at)
      unfolding amount_of u64 ending
      amount_beyond f = rw (bytes_got s at 8 amount_room, told, f)

      pub amount_got : b ≡ true → Ok n ≡ ending (amount_of unit s at)
      unfolding amount_of u64 ending
      amount_got f = rw (bytes_got s at 8 amount_room, told, f, (word_room s at n (sym is ∙ e)).1)

-- a unit and an amount
module _ (s : List ℕ) (at : ℕ) where
  pub unit-end : length s ≤ at → Err Cut ≡ ending (seconds_of s at)
  unfolding seconds_of ending
  unit-end h = rw (u8-end s at h)

  module _ (h : at < length s) where
    pub unit_undefined : 3 < get_or s at 0 → Err UndefinedChoice ≡ ending (seconds_of s at)
    unfolding seconds_of ending keys_up_to units
    unit_undefined k = rw (u8_got s at h, choose_beyond s (at + 1) 3 (get_or s at 0) k units refl)

    pub seconds_read : (unit : ℕ) → UnitOf (get_or s at 0) unit → (x : Read) → x ≡ ending (amount_of unit s (at + 1)) → x ≡ ending (seconds_of s at)
    unfolding seconds_of
    seconds_read unit is x e = rw (u8_got s at h, is.reads s (at + 1)) e

-- a window
module _ (v : ℕ) (s : List ℕ) (at : ℕ) where
  pub window_before : v ≤ 1 → Ok at ≡ ending (window v s at)
  unfolding window ending
  window_before h = rw (le-leb v 1 h)

  module _ (later : 1 < v) where
    pub window-end : length s ≤ at → Err Cut ≡ ending (window v s at)
    unfolding window ending
    window-end h = rw (lt-leb v 1 later, u8-end s at h)

    module _ (h : at < length s) where
      window_kind : (k : ℕ) → get_or s at 0 ≡ k → window v s at ≡ choose k window_kinds s (at + 1)
      unfolding window
      window_kind k e = rw (lt-leb v 1 later) (choice s at window_kinds h k e)

      pub window_seconds : get_or s at 0 ≡ 0 → (x : Read) → x ≡ ending (seconds_of s (at + 1)) → x ≡ ending (window v s at)
      unfolding choose window_kinds
      window_seconds k x e = via (window_kind 0 k) e

      pub window_parameter : get_or s at 0 ≡ 1 → Ok (at + 1) ≡ ending (window v s at)
      unfolding choose window_kinds ending
      window_parameter k = via (window_kind 1 k) refl

      pub window_undefined : (get_or s at 0 ≡ 0 → ⊥) → (get_or s at 0 ≡ 1 → ⊥) → Err UndefinedChoice ≡ ending (window v s at)
      unfolding choose window_kinds ending
      window_undefined i j = via (window_kind _ refl) (rw (ne_eqb (get_or s at 0) 0 i, ne_eqb (get_or s at 0) 1 j))

pub ruleset units_read = (rules, in_seconds, in_minutes, in_hours, in_days)

pub ruleset amounts = (rules, amount_stops, amount_room, amount_beyond, amount_got)

pub ruleset windows = (rules, unit-end, unit_undefined, seconds_read, window_before, window-end, window_seconds, window_parameter, window_undefined)
