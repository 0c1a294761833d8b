-- What the code learns of the window of a condition. Assumes nothing.
use mathlib.Core.Path.{◌≡◌, refl, sym, ap, ◌∙◌}
use mathlib.Core.Bool.{Bool, true, false, ◌&&◌, false≢true}
use mathlib.Core.List.{List}
use Prim.Native.Nat.{ℕ, ◌+◌, ◌*◌, ◌≤◌, ◌<◌}
use native.Mathlib.Omega.{arith}
use borrow.Author.Rules.{rules}
use borrow.Author.Tests.{le-leb, lt-leb, ne_eqb, ltb-true, eqb-true, eqb-false}
use lib.Dec.{ltb, leb, eqb}
use lib.ListN.{length, get_or, take, drop}
use Rattle.names.specs.Fields.{got, number}
use Rattle.names.specs.Read.{accepted, value_or}
use Rattle.names.specs.Laws.Readers.{Accepted, accept, is_accepted, has_value}
use Rattle.names.specs.Laws.Words.{WordAt}
use Rattle.condition.specs.Condition.{unsaid, seconds, signed_bound, fits, seconds_of, window, Condition, negation, formerly, previous, refine, and, or, since, one, two, predicate, comparison, exists, tp, opaque}
use Rattle.condition.specs.Places.{version_in, is_condition, condition_in, is_window, window_in, UnitOf}
use Rattle.nodes.specs.declared.WindowAt.TheVariants.{Unsaid, Parameter, Seconds}
use Rattle.nodes.specs.declared.WindowAt.{WindowAt}
use Rattle.nodes.specs.Kinds.{kind_of, window_of, one_kind, two_kind, window_kind}
use Rattle.nodes.specs.Offsets.{window_length, behind_span}
use Rattle.nodes.specs.Parts.{window_from, WindowHere}
use Rattle.nodes.specs.Laws.Windows.{SecondsView, seconds_view, window_none, WindowView, window_view, Said, window_said}
use Rattle.nodes.specs.Laws.Views.{head_view, one_view, two_view}
use Rattle.nodes.specs.Laws.Opens.{Stands, condition_stands, condition_index, kind_itself}

-- a window that stands at a place, of a record whose version the code has read
module _ (s : List ℕ) (at : ℕ) (acc : is_window s at ≡ true) (v : ℕ) (is : v ≡ version_in s) where
  stands : Accepted (window (version_in s) s at)
  stands = accept (window (version_in s) s at) acc

  module _ (h : v ≤ 1) where
    first : leb (version_in s) 1 ≡ true
    first = rw (← is) (le-leb v 1 h)

    pub length_none : 0 ≡ window_length (version_in s) s at
    unfolding window_length
    length_none = rw first

    pub said_none : window_in s at ≡ window_from Unsaid
    unfolding window_in
    said_none = has_value unsaid stands.read ∙ (window_none (version_in s) s at first stands.read).0

  module _ (h : 1 < v) where
    later : leb (version_in s) 1 ≡ false
    later = rw (← is) (lt-leb v 1 h)

    view : WindowView s at stands.value stands.place
    view = window_view (version_in s) s at later stands.read

    pub window_index : at < length s
    window_index = view.inside

    said : Said s at (get_or s at 0) stands.value stands.place
    said = window_said s at (get_or s at 0) view.reads

    module _ (k : get_or s at 0 ≡ 0) where
      pub length_seconds : 10 ≡ window_length (version_in s) s at
      unfolding window_length
      length_seconds = rw (later, k)

      pub seconds_stand : accepted (seconds_of s (at + 1)) ≡ true
      seconds_stand = is_accepted (said.amount k)

      pub said_seconds : (r : ℕ) → value_or unsaid (seconds_of s (at + 1)) ≡ seconds r → window_in s at ≡ window_from (Seconds r)
      unfolding window_in
      said_seconds r e = has_value unsaid stands.read ∙ sym (has_value unsaid (said.amount k)) ∙ e

    module _ (k : get_or s at 0 ≡ 0 → ⊥) where
      pub length_parameter : 1 ≡ window_length (version_in s) s at
      unfolding window_length
      length_parameter = rw (later, ne_eqb _ 0 k)

      pub said_parameter : window_in s at ≡ window_from Parameter
      unfolding window_in
      said_parameter = has_value unsaid stands.read ∙ said.other k

-- a unit and an amount
both : (a b : Bool) → (a && b) ≡ true → b ≡ true
both true b e = e
both false b e = absurd (false≢true e)

module _ (s : List ℕ) (at : ℕ) (acc : accepted (seconds_of s at) ≡ true) where
  counted : Accepted (seconds_of s at)
  counted = accept (seconds_of s at) acc

  seen : SecondsView s at counted.value counted.place
  seen = seconds_view s at counted.read

  pub unit_index : at < length s
  unit_index = seen.inside

  pub unit_defined : get_or s at 0 ≤ 3
  unit_defined = seen.defined

  pub amount_inside : at + 1 + 8 ≤ length s
  amount_inside = seen.amount.inside

  module _ (w : ℕ) (is : WordAt s (at + 1) w) (unit : ℕ) (of : UnitOf (get_or s at 0) unit) where
    product : w * unit ≡ number 0 (take 8 (drop (at + 1) s)) * seen.unit
    product = rw (is.is, seen.only unit of)

    pub seconds_fit : w * unit < 18446744073709551616
    unfolding fits
    seconds_fit =
        let l : number 0 (take 8 (drop (at + 1) s)) * seen.unit < signed_bound = ltb-true _ _ (both (ltb (number 0 (take 8 (drop (at + 1) s))) signed_bound) _ seen.amount.passed) in
        rw product (omega arith)

    pub seconds_are : value_or unsaid (seconds_of s at) ≡ seconds (w * unit)
    seconds_are = has_value unsaid counted.read ∙ seen.amount.value ∙ ap seconds (sym product)

-- a condition
none_said : (x : Condition) → window_kind (kind_of x) ≡ false → window_of x ≡ unsaid
none_said (one negation at c) e = refl
none_said (one refine at c) e = refl
none_said (one (formerly w) at c) e = absurd (false≢true (sym e))
none_said (one (previous w) at c) e = absurd (false≢true (sym e))
none_said (two and at l r) e = refl
none_said (two or at l r) e = refl
none_said (two (since w) at l r) e = absurd (false≢true (sym e))
none_said (predicate at own ns act args) e = refl
none_said (comparison at op l r) e = refl
none_said (exists at b c) e = refl
none_said (tp at x) e = refl
none_said (opaque at) e = refl

module _ (s : List ℕ) (at : ℕ) (acc : is_condition s at ≡ true) where
  without : window_kind (kind_of (condition_in s at)) ≡ false → WindowHere s at Unsaid
  without h = record { value = none_said (condition_in s at) h }

  kind-is : (get_or s at 0 ≡ 12 → ⊥) → get_or s at 0 ≡ kind_of (condition_in s at)
  kind-is h = (kind_itself s at acc h).kind

  pub window_low : get_or s at 0 < 4 → WindowHere s at Unsaid
  window_low h = let e = kind-is (λ q. omega arith) in without (rw (← e, lt-leb 4 (get_or s at 0) h))

  -- a Sigil counts as a Call, and neither has a window
  pub window_high : 6 < get_or s at 0 → WindowHere s at Unsaid
  window_high h = go (eqb (get_or s at 0) 12) refl
    where
      go : (b : Bool) → eqb (get_or s at 0) 12 ≡ b → WindowHere s at Unsaid
      go true i =
          let e = (head_view (version_in s) s at (condition_stands s at acc).read).kind in
          let q : get_or s at 0 ≡ 12 = eqb-true _ _ i in
          without (rw (← e, q))
      go false i = let e = kind-is (eqb-false _ _ i) in without (rw (← e, le-leb 4 (get_or s at 0) (omega arith), lt-leb (get_or s at 0) 6 h))

  module _ (l : 4 ≤ get_or s at 0) (h : get_or s at 0 ≤ 6) where
    has_window : window_kind (get_or s at 0) ≡ true
    has_window = rw (le-leb 4 (get_or s at 0) l, le-leb (get_or s at 0) 6 h)

    in_one : one_kind (get_or s at 0) ≡ true → Stands (window (version_in s) s (at + 9)) (window_of (condition_in s at))
    in_one k =
        let v = one_view (version_in s) s at (condition_stands s at acc).read k in
        record { end = at + 9 + behind_span (version_in s) (get_or s at 0) s at; read = v.behind.windows has_window ∙ ap (λ x. got (window_of x) (at + 9 + behind_span (version_in s) (get_or s at 0) s at)) (sym v.whole) }

    in_two : two_kind (get_or s at 0) ≡ true → Stands (window (version_in s) s (at + 9)) (window_of (condition_in s at))
    in_two k =
        let v = two_view (version_in s) s at (condition_stands s at acc).read k in
        record { end = at + 9 + behind_span (version_in s) (get_or s at 0) s at; read = v.behind.windows has_window ∙ ap (λ x. got (window_of x) (at + 9 + behind_span (version_in s) (get_or s at 0) s at)) (sym v.whole) }

    there : Stands (window (version_in s) s (at + 9)) (window_of (condition_in s at))
    there = go (eqb (get_or s at 0) 4) (eqb (get_or s at 0) 5) refl refl
      where
        go : (a b : Bool) → eqb (get_or s at 0) 4 ≡ a → eqb (get_or s at 0) 5 ≡ b → Stands (window (version_in s) s (at + 9)) (window_of (condition_in s at))
        go true b i j = in_one (ap one_kind (eqb-true (get_or s at 0) 4 i))
        go false true i j = in_one (ap one_kind (eqb-true (get_or s at 0) 5 j))
        go false false i j =
            let m : get_or s at 0 ≡ 4 → ⊥ = eqb-false _ _ i in
            let n : get_or s at 0 ≡ 5 → ⊥ = eqb-false _ _ j in
            let e : get_or s at 0 ≡ 6 = omega arith in
            in_two (ap two_kind e)

    pub window_stands : is_window s (at + 9) ≡ true
    window_stands = is_accepted there.read

    pub window_here : (r : WindowAt) → window_in s (at + 9) ≡ window_from r → WindowHere s at r
    unfolding window_in
    window_here r e = record { value = sym (has_value unsaid there.read) ∙ e }

pub ruleset lengths = (rules, window_index, length_none, length_seconds, length_parameter)

pub ruleset amounts = (rules, unit_index, unit_defined, amount_inside, seconds_fit, seconds_are)

pub ruleset sayings = (rules, window_index, said_none, seconds_stand, said_seconds, said_parameter)

pub ruleset windows = (rules, condition_index, window_low, window_high, window_stands, window_here)
