use Rattle.std.proofs.Common.{◌≡◌, ℕ, ◌<◌, List, length}
use Rattle.reports.specs.Reports.{Breach}
use Rattle.reports.specs.Sink.{breach_of}
use Rattle.reports.specs.Slots.{key_of, slots_of, first_slot}
use Rattle.reports.specs.Laws.Slots.{Searched}
use Rattle.reports.proofs.slots.find.Given as goal

-- the slots passed have reports, and none of them is the one that is looked for
pub record Finding (s table : List ℕ) (b : Breach) (size first k : ℕ) : Type 0 where
  pub all : size ≡ length (slots_of table)
  pub from : first ≡ first_slot (key_of table) (length (slots_of table)) b
  pub within : first < size
  pub searched : Searched (key_of table) s (slots_of table) b k

abbrev pub invariant-loop-k : goal.invariant-loop-k
invariant-loop-k l = Finding l.buf l.table (breach_of l.it) l.size l.first l.k
