-- `reports::standing::report_end` meets its contract. Assumes nothing.
use Rattle.std.proofs.Common.{ℕ, ◌+◌, ◌-◌, ◌≤◌, ◌<◌, List, None, Some, length, take, drop, refl, arith, rules, length-drop}
use Rattle.reports.specs.declared.Header.{Header}
use Rattle.reports.specs.Standing.{HeaderAt, EndsAt}
use Rattle.reports.specs.Laws.Standing.{header_long, header_stands}
use Rattle.reports.proofs.standing.report_end.Goals as goal

module _ (s : List ℕ) (at : ℕ) (inside : at ≤ length s) where
  no_header : length s - at < 10 → EndsAt s at None
  no_header h = omega (arith, length-drop at s)

  module _ (fits : 10 ≤ length s - at) (h : Header) (r : HeaderAt s at h) where
    no_message : length s - at - 10 < h.long → EndsAt s at None
    no_message l = omega (arith, length-drop at s, header_long s at h r)

    stands : h.long ≤ length s - at - 10 → EndsAt s at (Some (at + 10 + h.long))
    stands l = header_stands s at h r (take h.long (drop (at + 10) s)) refl (omega arith)

ruleset steps = (rules, no_header, no_message, stands)

pub returns-then-left-header : goal.returns-then-left-header
returns-then-left-header c = search steps

pub returns : goal.returns
returns c = search steps
