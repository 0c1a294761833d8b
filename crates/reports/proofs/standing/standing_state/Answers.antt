-- `reports::standing::standing_state` meets its contract. The loop's invariant: the state is that of the reports so far. Assumes nothing.
use mathlib.Core.Path.{◌≡◌, refl}
use mathlib.Core.List.{List}
use Prim.Native.Nat.{ℕ, ◌-◌, ◌≤◌, ◌<◌}
use native.Mathlib.Omega.{arith}
use lib.ListN.{length}
use borrow.Author.Rules.{rules}
use Rattle.std.specs.Prelude.{Option, None, Some}
use Rattle.reports.specs.declared.State.{State}
use Rattle.reports.specs.Sink.{sink, none, more, Sound}
use Rattle.reports.specs.Standing.{standing_state, Stands, EndsAt}
use Rattle.reports.proofs.standing.standing_state.Invariants.{SoFar}
use Rattle.reports.proofs.standing.standing_state.Goals as goal
use Rattle.reports.specs.Laws.Sinks.{sound_start}
use Rattle.reports.specs.Laws.Standing.{standing_over, further_sound, further_count, further_on}

begins : (s : List ℕ) → SoFar s none
begins s = record { sound = sound_start s; yet = refl }

module _ (s : List ℕ) (st : State) (inv : SoFar s st) where
  inside : st.used ≤ length s
  inside = inv.sound.within

  holds : Sound (sink s st)
  holds = inv.sound

  module _ (end : Option ℕ) (is : EndsAt s st.used end) where
    over : end ≡ None → st ≡ standing_state s
    over e = standing_over (sink s st) inv.sound inv.yet (rw e at is)

    module _ (next : ℕ) (e : end ≡ Some next) where
      stands : Stands s st.used next
      stands = rw e at is

      counts : st.count < next
      counts = further_count s st inv.sound inv.yet next stands

      goes_on : (r : State) → r ≡ more st next → SoFar s r
      goes_on r q = rw q (record { sound = further_sound s st inv.sound inv.yet next stands; yet = refl })

      less : (r : State) → r ≡ more st next → length s - r.used < length s - st.used
      less r q = rw q (omega (arith, further_on s st inv.sound inv.yet next stands, stands.within))

ruleset steps = (rules, begins, inside, holds, over, counts, goes_on, less)

pub loop-next-init : goal.loop-next-init
loop-next-init c = search steps

pub one_more-state-requires : goal.one_more-state-requires
one_more-state-requires c = search steps

pub loop-next-smaller : goal.loop-next-smaller
loop-next-smaller c = search steps

pub loop-next-preserved : goal.loop-next-preserved
loop-next-preserved c = search steps

pub returns-clause-value : goal.returns-clause-value
returns-clause-value c = search steps
