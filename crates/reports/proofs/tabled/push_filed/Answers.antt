-- `reports::tabled::push_filed` meets its contract: a b that the table has is a repeat, and any other has a free slot. Assumes nothing.
use mathlib.Core.Path.{◌≡◌, refl, sym}
use mathlib.Core.Bool.{true}
use mathlib.Core.List.{List}
use Prim.Native.Nat.{ℕ, ◌<◌}
use lib.ListN.{length}
use borrow.Author.Rules.{rules}
use Rattle.reports.specs.declared.State.{State}
use Rattle.std.specs.Prelude.{Option, None, Some}
use Rattle.reports.specs.Reports.{Breach}
use Rattle.reports.specs.Sink.{sink, held, push, Sound}
use Rattle.reports.specs.Laws.Sinks.{push_old}
use Rattle.reports.specs.Slots.{key_of, slots_of, Tabled, FreeFor, Finds, is_open, Filed, FreeIn}
use Rattle.reports.specs.Laws.Slots.{open_tabled, open_room, free_within, place-fits}
use Rattle.reports.proofs.tabled.push_filed.Goals as goal

module _ (s : List ℕ) (st : State) (table : List ℕ) (b : Breach) (p : Sound (sink s st)) (filed : Filed (sink s st) table) (is : is_open (sink s st) table ≡ true) where
  tabled : Tabled (key_of table) (held (sink s st)) (slots_of table)
  tabled = open_tabled s st table p filed (sym is) refl

  more : length (held (sink s st)) < length (slots_of table)
  more = open_room s st table p filed (sym is) refl

  module _ (slot : Option ℕ) (finds : Finds (key_of table) (held (sink s st)) (slots_of table) b slot) where
    repeated : slot ≡ None → sink s st ≡ push (sink s st) b
    repeated e = push_old s st b {t = true} (sym (rw e at finds)) refl

    free : (at : ℕ) → slot ≡ Some at → FreeIn s st table b at
    free at e =
        let here : FreeFor (key_of table) (held (sink s st)) (slots_of table) b at = rw e at finds in
        record { filed = filed; tabled = tabled; slot = here; inside = free_within s st table p filed (sym is) refl b at here; place = place-fits s st table p filed (sym is) refl }

ruleset steps = (rules, tabled, more, repeated, free)

pub find-requires-clause-tabled : goal.find-requires-clause-tabled
find-requires-clause-tabled c = search steps

pub find-requires-clause-state_in_bounds : goal.find-requires-clause-state_in_bounds
find-requires-clause-state_in_bounds c = search steps

pub returns-in_default-clause-result_after : goal.returns-in_default-clause-result_after
returns-in_default-clause-result_after c = search steps

pub add_filed-requires-clause-free_in : goal.add_filed-requires-clause-free_in
add_filed-requires-clause-free_in c = search steps
