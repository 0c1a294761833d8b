use Rattle.std.proofs.Common.{◌≡◌, ℕ, ◌-◌, ◌≤◌, false, List}
use Rattle.reports.specs.declared.State.{State}
use Rattle.reports.specs.Sink.{sink, Sound}
use Rattle.reports.specs.Slots.{Filed}
use Rattle.reports.proofs.standing.refile.Given as goal

-- the first reports of the buffer are in the table
pub record SoFar (s : List ℕ) (st : State) (table : List ℕ) (first : State) : Type 0 where
  pub sound : Sound (sink s first)
  pub yet : first.full ≡ false
  pub filed : Filed (sink s first) table
  pub fewer : first.count ≤ st.count

abbrev pub invariant-loop-filed : goal.invariant-loop-filed
invariant-loop-filed l = SoFar l.buf l.state l.table l.filed

abbrev pub decreases-loop-filed : goal.decreases-loop-filed
decreases-loop-filed l = l.state.count - l.filed.count
