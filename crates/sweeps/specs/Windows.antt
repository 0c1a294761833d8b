-- The listing of windows: each concrete window that the walk reaches, in its order, in sweeps of a period and the seconds left.
use Rattle.std.specs.Prelude.{ℕ, ◌/◌, ◌%◌, cond, List, [], ◌∷◌, map, eqb}
use Rattle.names.specs.Lists.{gather}
use Rattle.names.specs.Fields.{either, whole}
use Rattle.condition.specs.Condition.{Condition, Window, unsaid, seconds, parameter, condition_record}
use Rattle.condition.specs.Walk.{reached}
use Rattle.nodes.specs.Kinds.{span_of, window_of}
use Rattle.reports.specs.Reports.{Outcome, refusal}
use Rattle.sweeps.specs.Entries.{Entry, listed}

-- a concrete window: where its condition starts, and its seconds
pub record Concrete : Type 0 where
  pub start : ℕ
  pub length : ℕ

-- what a condition with this start and this window has: a macro's parameter is none, and version 1 says none
unfoldable pub concrete_of : ℕ → Window → List Concrete
concrete_of start unsaid = []
concrete_of start (seconds n) = record { start = start; length = n } ∷ []
concrete_of start parameter = []

unfoldable pub concrete_in : Condition → List Concrete
concrete_in c = concrete_of (span_of c).start (window_of c)

-- the concrete windows of the reached conditions, in the order of the walk
unfoldable pub concrete_windows : Condition → List Concrete
concrete_windows c = gather concrete_in (reached c)

-- a window in sweeps of a period
abbrev pub in_sweeps : ℕ → Concrete → Entry
in_sweeps period w = record { start = w.start; sweeps = w.length / period; rest = w.length % period }

unfoldable pub entries : ℕ → Condition → List Entry
entries period c = map (in_sweeps period) (concrete_windows c)

-- the listing of a condition that was read: 14 for a period of 0, or the entries in the buffer
unfoldable pub swept : ℕ → List ℕ → Condition → Outcome
swept period buffer c = cond (eqb period 0) (refusal 14 0 buffer) (listed (entries period c) buffer)

-- the listing: record 2 is read; its refusal, or what is listed
unfoldable pub windows : List ℕ → ℕ → List ℕ → Outcome
windows condition_bytes period buffer =
    either (λ r. refusal r 2 buffer) (swept period buffer) (whole condition_record condition_bytes)
