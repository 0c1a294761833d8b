use Rattle.std.proofs.Common.{◌≡◌, ℕ, ◌-◌, ◌≤◌, List, length, drop}
use Rattle.names.specs.Lists.{any_of}
use Rattle.reports.specs.Reports.{Breach, same_pair}
use Rattle.reports.specs.Sink.{breach_of}
use Rattle.reports.specs.Decode.{reports, Whole}
use Rattle.reports.proofs.earlier.seen.Given as goal

-- the reports that were not asked yet stand from `at` on, and they decide
pub record Left (b : Breach) (s : List ℕ) (count asked at : ℕ) : Type 0 where
  pub inside : at ≤ length s
  pub whole : Whole (count - asked) (drop at s)
  pub decides : any_of (same_pair b) (reports (count - asked) (drop at s)) ≡ any_of (same_pair b) (reports count s)

abbrev pub invariant-loop : goal.invariant-loop
invariant-loop l = Left (breach_of l.it) l.buf l.count l.counter l.at
