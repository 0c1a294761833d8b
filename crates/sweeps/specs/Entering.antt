-- One entry put into a buffer with its state, as the code does it; a function that may do so says `requires` Fit (sink (now out) state), and `ensures` Entered
-- of its entries.
use Rattle.std.specs.Prelude.{ℕ, ◌+◌, ◌*◌, ◌≤◌, ◌≡◌, cond, List, length, leb}
use Rattle.names.specs.Writer.{store}
use Rattle.reports.specs.declared.State.{State}
use Rattle.reports.specs.Sink.{Sink, sink, more, stopped, Recorded}
use Rattle.sweeps.specs.Entries.{Entry, encoded}

-- nothing after one that did not fit, and only what fits
unfoldable pub enter : Sink → Entry → Sink
enter s e =
    let st = s.state in
    cond st.full s
    (cond (leb (st.used + 20) (length s.bytes))
    (sink (store s.bytes st.used (encoded e)) (more st (st.used + 20)))
    (sink s.bytes (stopped st)))

-- the state of a listing: 20 bytes for each entry, and all of them in the buffer
pub record Fit (s : Sink) : Type 0 where
  pub used : s.state.used ≡ s.state.count * 20
  pub within : s.state.used ≤ length s.bytes

abbrev pub Entered : List ℕ → State → List Entry → List ℕ → State → Type 0
Entered = Recorded enter Fit
