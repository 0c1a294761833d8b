-- A buffer with its state, one breach put into it, and how the bytes stand for a log.
-- Every function that may report repeats says: `requires` Sound (sink (now buf) state), and `ensures` Appended of its breaches. One that may not asks for a table
-- beside the buffer (Slots).
use Rattle.std.specs.Prelude.{◌≡◌, Bool, true, false, cond, not, ◌&&◌, List, ◌++◌, ℕ, ◌+◌, ◌≤◌, length, drop, leb}
use Rattle.names.specs.Lists.{any_of, gather}
use Rattle.names.specs.Writer.{store}
use Rattle.reports.specs.declared.State.{State}
use Rattle.reports.specs.declared.Report.{Report}
use Rattle.reports.specs.Reports.{Breach, same_pair, encoded, Answer, Outcome}
use Rattle.reports.specs.Decode.{width, reports}
use Rattle.reports.specs.Kept.{fold, Log}

-- the breach that the code reports
abbrev pub breach_of : Report → Breach
breach_of r = record { start = r.start; end = r.end; message = r.message.now }

pub record Sink : Type 0 where
  pub bytes : List ℕ
  pub state : State

abbrev pub sink : List ℕ → State → Sink
sink s st = record { bytes = s; state = st }

-- the reports that the bytes hold
abbrev pub held : Sink → List Breach
held s = reports s.state.count s.bytes

-- ---- one breach, and a list of breaches one by one, as the code takes them

-- the state after a report that ends before `next`, and after one that does not fit
abbrev pub more : State → ℕ → State
more st next = record { used = next; count = st.count + 1; full = false }

abbrev pub stopped : State → State
stopped st = record { used = st.used; count = st.count; full = true }

-- nothing after one that did not fit, and only what fits
unfoldable pub append : Sink → Breach → Sink
append s b =
    let st = s.state in
    cond st.full s
    (cond (leb (st.used + width b) (length s.bytes))
    (sink (store s.bytes st.used (encoded b)) (more st (st.used + width b)))
    (sink s.bytes (stopped st)))

-- and no pair twice
unfoldable pub push : Sink → Breach → Sink
push s b = cond (any_of (same_pair b) (held s)) s (append s b)

abbrev pub append_all : Sink → List Breach → Sink
append_all s bs = fold append s bs

abbrev pub push_all : Sink → List Breach → Sink
push_all s bs = fold push s bs

-- whether a report is put in whose message has so many bytes: none before it did not fit, and it fits
unfoldable pub room_for : Sink → ℕ → Bool
room_for s long = not s.state.full && leb (s.state.used + (10 + long)) (length s.bytes)

-- ---- a log as it stands in a buffer that held `old` before

unfoldable pub written : List ℕ → Log → Sink
written old l =
    let r = gather encoded l.kept in
    sink (r ++ drop (length r) old) (record { used = length r; count = length l.kept; full = l.full })

-- the log that a sink stands for, and that the sink is no more and no less than this log over its bytes
abbrev pub log_of : Sink → Log
log_of s = record { kept = held s; full = s.state.full }

pub record Sound (s : Sink) : Type 0 where
  pub is : s ≡ written s.bytes (log_of s)
  pub within : s.state.used ≤ length s.bytes

-- ---- what a function that may report does: from the bytes and the state before it to those after it, its breaches are put in one by one, and the buffer is fit
-- for the next. (What is put in may be something else than a breach: f says how it is put in.)

pub record Recorded {B : Type 0} (f : Sink → B → Sink) (fit : Sink → Type 0) (before : List ℕ) (st : State) (bs : List B) (after : List ℕ) (st' : State) : Type 0 where
  pub still : fit (sink after st')
  pub is : sink after st' ≡ fold f (sink before st) bs

-- with repeats
abbrev pub Appended : List ℕ → State → List Breach → List ℕ → State → Type 0
Appended = Recorded append Sound

-- ---- a run: from no report, over a buffer that holds anything

abbrev pub none : State
none = record { used = 0; count = 0; full = false }

abbrev pub start : List ℕ → Sink
start old = sink old none

-- what a caller gets: 0, or 11 where a report did not fit, how many reports, and the bytes

abbrev pub answer : State → Answer
answer st = record { number = cond st.full 11 0; record_number = 0; count = st.count }

abbrev pub outcome : Sink → Outcome
outcome s = record { answer = answer s.state; buffer = s.bytes }
