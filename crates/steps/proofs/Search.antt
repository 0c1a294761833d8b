-- The loop over the list for the first pending target. Assumes nothing.
use mathlib.Core.Path.{◌≡◌, refl, sym, ◌∙◌}
use mathlib.Core.Bool.{true}
use mathlib.Core.List.{List, []}
use mathlib.Core.Option.{Option}
use Prim.Native.Nat.{ℕ, ◌+◌, ◌-◌, ◌≤◌, ◌<◌}
use native.Mathlib.Omega.{arith}
use borrow.Author.Rules.{rules}
use borrow.Author.Tests.{ne_eqb}
use lib.ListN.{length, get_or}
use Rattle.names.specs.Read.{ending, Listed}
use Rattle.names.specs.Laws.Rows.{Remaining, remaining_over, remaining_stands, remaining_first}
use Rattle.targets.specs.Targets.{Target, target}
use Rattle.targets.specs.Places.{is_target}
use Rattle.steps.specs.Steps.{is_pending, first_pending}
use Rattle.steps.specs.Parts.{FindsPending}
use Rattle.std.specs.Prelude.{Ok, Some, None}

-- the invariant: what is left of the list answers as the whole does, and each position of it has a mark
pub record Searching (n marks : List ℕ) (o : Option (ℕ × Target)) (rest at position : ℕ) : Type 0 where
  pub left : Remaining target n (first_pending marks position) o rest at
  pub few : position + rest < 256

module _ (n marks : List ℕ) where
  pub search_begins : (list : List Target) (rest at : ℕ) → rest ≡ length list → rest < 256 → Listed target n list (length list) at → Searching n marks (first_pending marks 0 list) rest at 0
  search_begins list rest at e m l = record { left = record { left = list; there = rw e l; same = refl }; few = omega arith }

  module _ (o : Option (ℕ × Target)) (end at position : ℕ) (l : Searching n marks o (end - position) at position) where
    pub search_over : end ≤ position → FindsPending n o None
    unfolding first_pending
    search_over h = record { value = remaining_over target n (first_pending marks position) o (end - position) at (omega arith) l.left; stands = tt }

    module _ (h : position < end) where
      pub search_stands : is_target n at ≡ true
      search_stands = remaining_stands target n (first_pending marks position) o (end - position) at (omega arith) l.left

      pub search_found : (i : ℕ) → i ≡ position → get_or marks i 0 ≡ 0 → FindsPending n o (Some (record { position = position; at = at }))
      unfolding first_pending is_pending
      search_found i is e =
          let z : get_or marks position 0 ≡ 0 = rw (← is) e in
          let f = remaining_first target n (first_pending marks position) o (record { namespace = []; id = [] }) (end - position) at (omega arith) l.left in
          record { value = sym (rw z) ∙ f.same; stands = search_stands }

      pub search_on : (i : ℕ) → i ≡ position → (get_or marks i 0 ≡ 0 → ⊥) → (m : ℕ) → Ok m ≡ ending (target n at) → Searching n marks o (end - (position + 1)) m (position + 1)
      unfolding first_pending is_pending
      search_on i is e m d =
          let z : get_or marks position 0 ≡ 0 → ⊥ = rw is at e in
          let f = remaining_first target n (first_pending marks position) o (record { namespace = []; id = [] }) (end - position) at (omega arith) l.left in
          let left : end - (position + 1) ≡ (end - position) - 1 = omega arith in
          record { left = record { left = f.others; there = rw left (f.on m d); same = sym (rw (ne_eqb (get_or marks position 0) 0 z)) ∙ f.same }; few = omega (arith, l.few) }

pub ruleset searching = (rules, search_begins, search_over, search_stands, search_found, search_on)
