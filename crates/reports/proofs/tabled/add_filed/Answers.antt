-- `reports::tabled::add_filed` meets its contract: what fits is put into both, and what does not into neither. Assumes nothing.
use mathlib.Core.Path.{◌≡◌, refl, sym}
use mathlib.Core.Bool.{true, false}
use mathlib.Core.List.{List}
use Prim.Native.Nat.{ℕ, ◌+◌}
use lib.ListN.{set}
use borrow.Author.Rules.{rules}
use Rattle.reports.specs.declared.State.{State}
use Rattle.reports.specs.Reports.{Breach}
use Rattle.reports.specs.Sink.{Sink, sink, append, push, Sound}
use Rattle.reports.specs.Laws.Sinks.{push_new}
use Rattle.reports.specs.Slots.{Filed, FreeIn}
use Rattle.reports.specs.Laws.Slots.{filed_more, filed_still}
use Rattle.reports.proofs.tabled.add_filed.Goals as goal

module _ (s : List ℕ) (st : State) (table : List ℕ) (b : Breach) (at : ℕ) (p : Sound (sink s st)) (free : FreeIn s st table b at) where
  module _ {after : Sink} (added : after ≡ append (sink s st) b) where
    pushed : after ≡ push (sink s st) b
    pushed = push_new s st b {t = false} (sym free.slot.new) refl added

    stopped_filed : after.state.full ≡ true → Filed after table
    stopped_filed = filed_still s st table p free.filed b added

    more_filed : after.state.full ≡ false → (table' : List ℕ) → table' ≡ set table (at + 1) (st.used + 1) → Filed after table'
    more_filed = filed_more s st table p free.filed b added free.tabled at free.slot

ruleset steps = (rules, pushed, stopped_filed, more_filed)

pub returns-then-after-clause-result_after : goal.returns-then-after-clause-result_after
returns-then-after-clause-result_after c = search steps

pub returns-then-after-clause-filed : goal.returns-then-after-clause-filed
returns-then-after-clause-filed c = search steps

pub returns-clause-result_after : goal.returns-clause-result_after
returns-clause-result_after c = search steps

pub returns-clause-filed : goal.returns-clause-filed
returns-clause-filed c = search steps
