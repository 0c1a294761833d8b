-- `reports::earlier::seen` meets its contract. Assumes nothing.
use Rattle.std.proofs.Common.{◌≡◌, ℕ, zero, suc, ◌+◌, ◌-◌, ◌≤◌, ◌<◌, Bool, true, false, ◌||◌, List, length, drop, sym, ◌∙◌, arith, rules, add_assoc, sub-one, length-drop, drop-drop}
use Rattle.std.proofs.Math.Nat.{sub-zero}
use Rattle.names.specs.Lists.{any_of}
use Rattle.reports.specs.Reports.{Breach, same_pair}
use Rattle.reports.specs.Decode.{long_at, reports, report, behind, Whole}
use Rattle.reports.proofs.earlier.seen.Invariants.{Left}
use Rattle.reports.proofs.earlier.seen.Goals as goal

-- the report at `at`, of n from there on: it ends within the bytes, the others stand behind it, and all are asked in their order
module _ (b : Breach) (s : List ℕ) (at : ℕ) where
  abbrev next : ℕ
  next = at + 10 + long_at s at

  ends : (n : ℕ) → 0 < n → at ≤ length s → Whole n (drop at s) → next ≤ length s
  unfolding Whole
  ends zero p h w = omega arith
  ends (suc n) p h w = omega (arith, simp (drop-drop, length-drop) at w.0)

  others : (n : ℕ) → 0 < n → Whole n (drop at s) → Whole (n - 1) (drop next s)
  unfolding Whole behind
  others zero p w = w
  others (suc n) p w = rw (sub-one, add_assoc) (simp (drop-drop) at w.1)

  asked : (n : ℕ) → 0 < n
      → any_of (same_pair b) (reports n (drop at s)) ≡ (same_pair b (report (drop at s)) || any_of (same_pair b) (reports (n - 1) (drop next s)))
  unfolding any_of reports behind
  asked zero p = absurd (omega arith)
  asked (suc n) p = simp (sub-one, add_assoc, drop-drop)

begins : (b : Breach) (s : List ℕ) (count : ℕ) → Whole count s → Left b s count 0 0
begins b s count w = record { inside = omega arith; whole = rw (sub-zero count) w; decides = rw (sub-zero count) }

module _ {b : Breach} {s : List ℕ} {count done at : ℕ} (inv : Left b s count done at) where
  over : count ≤ done → false ≡ any_of (same_pair b) (reports count s)
  unfolding any_of reports
  over h =
      let none : count - done ≡ 0 = omega arith in
      rw none at inv.decides

  module _ (h : done < count) where
    fits : at + 10 + long_at s at ≤ length s
    fits = ends b s at (count - done) (omega arith) inv.inside inv.whole

    -- t is what the comparison with the report answered
    module _ {t : Bool} (is : t ≡ same_pair b (report (drop at s))) where
      found : t ≡ true → true ≡ any_of (same_pair b) (reports count s)
      found e = sym (sym inv.decides ∙ asked b s at (count - done) (omega arith) ∙ rw (← is, e))

      goes_on : t ≡ false → (n : ℕ) → n ≡ at + (10 + long_at s at) → Left b s count (done + 1) n
      goes_on e n is' =
          let n-is : n ≡ at + 10 + long_at s at = omega arith in
          let one_less : count - (done + 1) ≡ count - done - 1 = omega arith in
          rw n-is (record {
            inside = fits;
            whole = rw one_less (others b s at (count - done) (omega arith) inv.whole);
            decides = rw one_less (sym (sym inv.decides ∙ asked b s at (count - done) (omega arith) ∙ rw (← is, e)));
          })

ruleset steps = (rules, begins, fits, found, goes_on, over)

pub loop-init : goal.loop-init
loop-init c = search steps

pub is_repeat-requires : goal.is_repeat-requires
is_repeat-requires c = search steps

pub returns-then-is_repeat : goal.returns-then-is_repeat
returns-then-is_repeat c = search steps

pub overflow_add-at : goal.overflow_add-at
overflow_add-at c = omega (arith, fits c.loop.invariant (omega arith))

pub overflow_add-at-in-loop : goal.overflow_add-at-in-loop
overflow_add-at-in-loop c = omega (arith, fits c.loop.invariant (omega arith))

pub overflow_add-at-in-loop-2 : goal.overflow_add-at-in-loop-2
overflow_add-at-in-loop-2 c = omega (arith, fits c.loop.invariant (omega arith))

pub loop-preserved : goal.loop-preserved
loop-preserved c = search steps

pub returns : goal.returns
returns c = search steps
