-- A window that was read: where it ends, and what it says. Assumes nothing.
use Rattle.std.specs.Prelude.{◌≡◌, refl, Bool, true, false, cond, List, ℕ, ◌+◌, ◌*◌, ◌≤◌, ◌<◌, leb, eqb, length, get_or, take, drop}
use Rattle.std.proofs.Math.Path.{sym}
use Rattle.std.proofs.Common.{ap, ◌∙◌, arith}
use Rattle.names.specs.Fields.{got, next, u8, u64, bytes, number, choose}
use Rattle.names.specs.Laws.Readers.{split, held, u8_view, bytes_view, got_value, got_place, Each, keys_up_to}
use Rattle.condition.specs.Condition.{Window, unsaid, seconds, parameter, units, fits, amount_of, seconds_of, window_kinds, window}
use Rattle.condition.specs.Places.{UnitOf}
use Rattle.nodes.specs.Offsets.{window_length}
use Rattle.nodes.specs.Laws.Choices.{by_kind}
use Rattle.names.specs.declared.refusal.Refusal.TheVariants.{WindowOutOfRange}

-- an amount of a unit
pub record AmountView (unit : ℕ) (s : List ℕ) (at : ℕ) (w : Window) (n : ℕ) : Type 0 where
  pub inside : at + 8 ≤ length s
  pub passed : fits unit (number 0 (take 8 (drop at s))) ≡ true
  pub value : w ≡ seconds (number 0 (take 8 (drop at s)) * unit)
  pub place : n ≡ at + 8

amount_view : (unit : ℕ) (s : List ℕ) (at : ℕ) {w : Window} {n : ℕ} → amount_of unit s at ≡ got w n → AmountView unit s at w n
unfolding amount_of u64
amount_view unit s at {w} {n} e =
    let a = split (u64 s at) _ e in
    let b = split (bytes 8 s at) _ a.first in
    let v = bytes_view s at 8 b.first in
    let i : a.value ≡ number 0 (take 8 (drop at s)) = sym (got_value b.rest) ∙ ap (number 0) v.1 in
    let h = held WindowOutOfRange (fits unit a.value) s a.rest in
    let p = got_place b.rest in
    let q = h.place in
    record { inside = v.0; passed = ap (fits unit) (sym i) ∙ h.passed; value = sym h.value ∙ ap (λ (m : ℕ). seconds (m * unit)) i; place = omega (arith, v.2) }

-- a unit and an amount of it
pub record SecondsView (s : List ℕ) (at : ℕ) (w : Window) (n : ℕ) : Type 0 where
  pub unit : ℕ
  pub inside : at < length s
  pub defined : get_or s at 0 ≤ 3
  pub only : (other : ℕ) → UnitOf (get_or s at 0) other → other ≡ unit
  pub amount : AmountView unit s (at + 1) w n

unit_place : (k : ℕ) (s : List ℕ) (at : ℕ) {u n : ℕ} → choose k units s at ≡ got u n → (n ≡ at) × (k ≤ 3)
unfolding choose units Each keys_up_to
unit_place k s at {u} {n} =
    by_kind s at 3 units refl (λ j. (n ≡ at) × (j ≤ 3))
    ((((tt, λ e. (sym (got_place e), omega arith)), λ e. (sym (got_place e), omega arith)), λ e. (sym (got_place e), omega arith)), λ e. (sym (got_place e), omega arith)) k

pub seconds_view : (s : List ℕ) (at : ℕ) {w : Window} {n : ℕ} → seconds_of s at ≡ got w n → SecondsView s at w n
unfolding seconds_of
seconds_view s at {w} {n} e =
    let a = split (u8 s at) _ e in
    let v = u8_view s at a.first in
    let b = split (choose a.value units s a.place) _ a.rest in
    let f : choose (get_or s at 0) units s (at + 1) ≡ got b.value b.place = rw (← v.1, ← v.2) b.first in
    let u = unit_place (get_or s at 0) s (at + 1) f in
    record {
      unit = b.value;
      inside = v.0;
      defined = u.1;
      only = λ other h. got_value (sym (h.reads s (at + 1)) ∙ f);
      amount = amount_view b.value s (at + 1) (ap (amount_of b.value s) (sym u.0) ∙ b.rest);
    }

-- a window behind version 1, by its choice byte
pub record WindowView (s : List ℕ) (at : ℕ) (w : Window) (n : ℕ) : Type 0 where
  pub inside : at < length s
  pub reads : choose (get_or s at 0) window_kinds s (at + 1) ≡ got w n

module _ (v : ℕ) (s : List ℕ) (at : ℕ) {w : Window} {n : ℕ} where
  pub window_none : leb v 1 ≡ true → window v s at ≡ got w n → (w ≡ unsaid) × (n ≡ at)
  unfolding window
  window_none h e = let f : got unsaid at ≡ got w n = rw h at e in (sym (got_value f), sym (got_place f))

  pub window_view : leb v 1 ≡ false → window v s at ≡ got w n → WindowView s at w n
  unfolding window
  window_view h e =
      let f : next (u8 s at) (λ k m. choose k window_kinds s m) ≡ got w n = rw h at e in
      let a = split (u8 s at) _ f in
      let i = u8_view s at a.first in
      record { inside = i.0; reads = rw (← i.1, ← i.2) a.rest }

-- what a choice byte says of it
pub record Said (s : List ℕ) (at k : ℕ) (w : Window) (n : ℕ) : Type 0 where
  pub place : n ≡ at + cond (eqb k 0) 10 1
  pub amount : k ≡ 0 → seconds_of s (at + 1) ≡ got w n
  pub other : (k ≡ 0 → ⊥) → w ≡ parameter

pub window_said : (s : List ℕ) (at k : ℕ) {w : Window} {n : ℕ} → choose k window_kinds s (at + 1) ≡ got w n → Said s at k w n
unfolding choose window_kinds Each keys_up_to
window_said s at k {w} {n} =
    by_kind s (at + 1) 1 window_kinds refl (λ j. Said s at j w n) (
      (tt, λ e. record { place = let h = (seconds_view s (at + 1) e).amount.place in omega arith; amount = λ _. e; other = λ h. absurd (h refl) }),
      λ e. record { place = sym (got_place e); amount = λ h. absurd (omega arith); other = λ _. sym (got_value e) },
    ) k

-- where it ends
pub window_place : (v : ℕ) (s : List ℕ) (at : ℕ) {w : Window} {n : ℕ} → window v s at ≡ got w n → n ≡ at + window_length v s at
unfolding window_length
window_place v s at {w} {n} e = go (leb v 1) refl
  where
    go : (b : Bool) → leb v 1 ≡ b → n ≡ at + cond b 0 (cond (eqb (get_or s at 0) 0) 10 1)
    go true h = let p = (window_none v s at h e).1 in omega arith
    go false h = (window_said s at (get_or s at 0) (window_view v s at h e).reads).place
