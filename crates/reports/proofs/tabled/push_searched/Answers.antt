-- `reports::tabled::push_searched` meets its contract: its branches are those of `push`. Assumes nothing.
use mathlib.Core.Path.{◌≡◌, refl, sym}
use mathlib.Core.Bool.{false}
use mathlib.Core.List.{List}
use Prim.Native.Nat.{ℕ}
use Rattle.reports.specs.declared.State.{State}
use Rattle.reports.specs.Reports.{Breach}
use Rattle.reports.specs.Sink.{Sink, sink, append, Sound}
use Rattle.reports.specs.Laws.Sinks.{push_old, push_new, sound_whole}
use Rattle.reports.specs.Slots.{is_open, Filed}
use Rattle.reports.specs.Laws.Slots.{filed_beyond}
use borrow.Author.Rules.{rules}
use Rattle.reports.proofs.tabled.push_searched.Goals as goal

beyond : (s : List ℕ) (st : State) (table : List ℕ) → Sound (sink s st) → Filed (sink s st) table → is_open (sink s st) table ≡ false → (b : Breach) {after : Sink} → after ≡ append (sink s st) b → Filed after table
beyond s st table p filed shut b is = filed_beyond s st table p filed b is {t = false} (sym shut) refl

ruleset steps = (rules, push_old, push_new, sound_whole, beyond)

pub seen-requires : goal.seen-requires
seen-requires c = search steps

pub returns-then-seen-clause-result_after : goal.returns-then-seen-clause-result_after
returns-then-seen-clause-result_after c = search steps

pub returns-clause-result_after : goal.returns-clause-result_after
returns-clause-result_after c = search steps

pub returns-clause-filed_2 : goal.returns-clause-filed_2
returns-clause-filed_2 c = search steps
