-- The reports that stand whole at the front of some bytes, whatever the bytes are: what a buffer that was handed back holds. Assumes nothing.
use Rattle.std.specs.Prelude.{Option, None, Some, ◌≡◌, false, cond, List, [], ◌∷◌, ◌++◌, ℕ, zero, suc, ◌+◌, ◌≤◌, ◌<◌, length, take, drop, leb, eqb}
use Rattle.reports.specs.declared.State.{State}
use Rattle.reports.specs.declared.Header.{Header}
use Rattle.reports.specs.declared.Resumed.{Resumed}
use Rattle.reports.specs.Reports.{Breach, encoded}
use Rattle.reports.specs.Decode.{header, size, long, report, behind}
use Rattle.reports.specs.Sink.{Sink, sink, Sound}

-- the reports that stand there whole, one behind the other, looked at up to so many
unfoldable pub standing_among : ℕ → List ℕ → List Breach
standing_among zero s = []
standing_among (suc most) s = cond (leb (10 + long s) (length s)) (report s ∷ standing_among most (behind s)) []

-- the reports that stand whole at the front of some bytes: there are no more than there are bytes
unfoldable pub standing : List ℕ → List Breach
standing s = standing_among (length s) s

-- the state of a buffer that holds these reports alone
unfoldable pub standing_state : List ℕ → State
standing_state s = record { used = size (standing s); count = length (standing s); full = false }

-- A buffer that is handed back with the number of its bytes that are used. The earlier reports are those that stand whole at the front of these bytes. Where
-- nothing else stands there, a new report goes behind them; where something else does, or where so many bytes are not there, no new report fits
unfoldable pub resumed : ℕ → List ℕ → Sink
resumed used s =
    let state = standing_state (take used s) in
    sink (cond (eqb state.used used) s (take state.used s)) state

-- ---- what the code says of such a buffer

-- the header of a report that stands at a place: its ten bytes are those of these numbers
pub record HeaderAt (s : List ℕ) (at : ℕ) (h : Header) : Type 0 where
  pub is : take 10 (drop at s) ≡ header h.start h.end h.long

-- a report stands whole at a place, up to another
pub record Stands (s : List ℕ) (at next : ℕ) : Type 0 where
  pub within : next ≤ length s
  pub is : drop at s ≡ encoded (report (drop at s)) ++ drop next s

-- where the report at a place ends, if it stands there whole
abbrev pub EndsAt : List ℕ → ℕ → Option ℕ → Type 0
EndsAt s at (Some next) = Stands s at next
EndsAt s at None = length (drop at s) < 10 + long (drop at s)

-- how many of its bytes may be used, and the state of these
pub record Resumes (s : List ℕ) (used : ℕ) (r : Resumed) : Type 0 where
  pub is : sink (take r.size s) r.state ≡ resumed used s
  pub sound : Sound (resumed used s)
  pub within : r.size ≤ length s
