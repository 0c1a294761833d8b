use Rattle.std.proofs.Common.{◌≡◌, ◌-◌, false, List, length, ℕ}
use Rattle.reports.specs.declared.State.{State}
use Rattle.reports.specs.Sink.{sink, Sound}
use Rattle.reports.proofs.standing.standing_state.Given as goal

-- the state is that of the reports so far
pub record SoFar (s : List ℕ) (st : State) : Type 0 where
  pub sound : Sound (sink s st)
  pub yet : st.full ≡ false

abbrev pub invariant-loop-next : goal.invariant-loop-next
invariant-loop-next l = SoFar l.bytes l.state

abbrev pub decreases-loop-next : goal.decreases-loop-next
decreases-loop-next l = length l.bytes - l.state.used
