-- `reports::slots::find` meets its contract. The loop's invariant: the slots passed have reports, and none of them is the one that is looked for. Assumes nothing.
use mathlib.Core.Path.{◌≡◌, sym, ap, ◌∙◌}
use mathlib.Core.Bool.{Bool, true, false}
use mathlib.Core.List.{List}
use Prim.Native.Nat.{ℕ, ◌+◌, ◌-◌, ◌%◌, ◌≤◌, ◌<◌}
use native.Mathlib.Nat.{mod-lt}
use native.Mathlib.Omega.{arith}
use lib.ListN.{length, get_or, drop}
use borrow.Author.Rules.{rules}
use Rattle.reports.specs.declared.State.{State}
use Rattle.std.specs.Prelude.{None, Some}
use Rattle.reports.specs.Reports.{Breach, same_pair}
use Rattle.reports.specs.Decode.{long_at, report}
use Rattle.reports.specs.Sink.{sink, held, Sound}
use Rattle.reports.specs.Slots.{key_of, slots_of, hashed, first_slot, slot_at, Tabled, Finds}
use Rattle.reports.specs.Laws.Slots.{searched_none, searched_more, slots_length, entry_whole, entry_seen, free_new, some_free}
use Rattle.reports.proofs.slots.find.Invariants.{Finding}
use Rattle.reports.proofs.slots.find.Goals as goal

module _ (s : List ℕ) (st : State) (table : List ℕ) (b : Breach) (sound : Sound (sink s st)) (tabled : Tabled (key_of table) (held (sink s st)) (slots_of table)) (fewer : length (held (sink s st)) < length (slots_of table)) where
  some_entry : 0 < length table
  some_entry = omega (arith, slots_length table)

  module _ (size : ℕ) (all : size ≡ length (slots_of table)) where
    some_slot : 0 < size
    some_slot = omega arith

    begins : (h : ℕ) → h ≡ hashed (key_of table) b.start b.message → Finding s table b size (h % size) 0
    begins h is = record {
      all = all;
      from = rw (is, all);
      within = mod-lt h some_slot;
      searched = searched_none (key_of table) s (slots_of table) b;
    }

  over : {size first k : ℕ} → Finding s table b size first k → size ≤ k → Finds (key_of table) (held (sink s st)) (slots_of table) b None
  over {size} {first} {k} inv h = absurd (some_free (sink s st) sound (key_of table) (slots_of table) tabled b k (rw inv.all at h) inv.searched fewer)

  module _ {size first k : ℕ} (inv : Finding s table b size first k) (l : k < size) (at : ℕ) (is : at ≡ slot_at size first k) where
    inside : at < size → at + 1 < length table
    inside h = omega (arith, inv.all, slots_length table)

    module _ (entry : ℕ) (here : entry ≡ get_or (slots_of table) at 0) where
      at_slot : at ≡ slot_at (length (slots_of table)) (first_slot (key_of table) (length (slots_of table)) b) k
      at_slot = is ∙ rw (inv.all, inv.from)

      free : entry ≡ 0 → Finds (key_of table) (held (sink s st)) (slots_of table) b (Some at)
      free z =
          let none : get_or (slots_of table) at 0 ≡ 0 = sym here ∙ z in
          record {
            new = free_new (sink s st) sound (key_of table) (slots_of table) tabled b k inv.searched (ap (λ n. get_or (slots_of table) n 0) (sym at_slot) ∙ none);
            steps = k;
            within = rw inv.all at l;
            is = at_slot;
            free = none;
            passed = inv.searched.passed;
          }

      module _ (full : entry ≡ 0 → ⊥) where
        slot_full : 0 < get_or (slots_of table) at 0
        slot_full = rw (← here) (omega arith)

        whole : (entry - 1) + 10 + long_at s (entry - 1) ≤ length s
        whole = rw here (entry_whole (sink s st) sound (key_of table) (slots_of table) tabled b at slot_full)

        module _ {t : Bool} (asked : t ≡ same_pair b (report (drop (entry - 1) s))) where
          seen : t ≡ true → Finds (key_of table) (held (sink s st)) (slots_of table) b None
          seen e = entry_seen (sink s st) sound (key_of table) (slots_of table) tabled b at slot_full (rw here at (sym asked ∙ e))

          goes_on : t ≡ false → Finding s table b size first (k + 1)
          goes_on e = record {
            all = inv.all;
            from = inv.from;
            within = inv.within;
            searched = searched_more (key_of table) s (slots_of table) b k entry inv.searched at at_slot here full (sym asked ∙ e);
          }

ruleset steps = (rules, some_entry, some_slot, begins, over, inside, free, whole, seen, goes_on)

pub returns-then-entry-eq0 : goal.returns-then-entry-eq0
returns-then-entry-eq0 c = search steps

pub is_repeat-requires : goal.is_repeat-requires
is_repeat-requires c = search steps

pub returns-then-is_repeat : goal.returns-then-is_repeat
returns-then-is_repeat c = search steps

pub returns : goal.returns
returns c = search steps
