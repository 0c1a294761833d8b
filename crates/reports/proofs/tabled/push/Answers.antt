-- `reports::tabled::push` meets its contract: its branches are those of `push`. Assumes nothing.
use mathlib.Core.Path.{◌≡◌}
use mathlib.Core.Bool.{true}
use mathlib.Core.List.{List, [], ◌∷◌}
use Prim.Native.Nat.{ℕ}
use Rattle.reports.specs.declared.State.{State}
use Rattle.reports.specs.Reports.{Breach}
use Rattle.reports.specs.Sink.{sink}
use Rattle.reports.specs.Slots.{Lent, Pushed}
use Rattle.reports.specs.Laws.Sinks.{push_full}
use Rattle.reports.specs.Laws.Slots.{pushed_one}
use borrow.Author.Rules.{rules}
use Rattle.reports.proofs.tabled.push.Goals as goal

-- nothing is put in where one did not fit before
passes : (s : List ℕ) (st : State) (table : List ℕ) → Lent (sink s st) table → st.full ≡ true → (b : Breach) → Pushed s st (b ∷ []) s st table
passes s st table p full b = pushed_one p b (push_full s st b full) p.filed

ruleset steps = (rules, passes, pushed_one)

pub returns-then-state : goal.returns-then-state
returns-then-state c = search steps

pub returns-then-is_open : goal.returns-then-is_open
returns-then-is_open c = search steps

pub returns : goal.returns
returns c = search steps
