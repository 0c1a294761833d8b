-- `reports::standing::file_next` meets its contract: a pair that the table has is there already, and any other has a free slot. Assumes nothing.
use mathlib.Core.Path.{◌≡◌, refl, sym, ap, ◌∙◌}
use mathlib.Core.Bool.{true, false}
use mathlib.Core.List.{List}
use Prim.Native.Nat.{ℕ, ◌+◌, ◌≤◌, ◌<◌}
use native.Mathlib.Omega.{arith}
use lib.ListN.{length, set, take, drop}
use lib.Seq.{drop-drop}
use borrow.Author.Rules.{rules}
use Rattle.names.specs.Fields.{number}
use Rattle.reports.specs.declared.State.{State}
use Rattle.reports.specs.declared.Header.{Header}
use Rattle.std.specs.Prelude.{Option, None, Some}
use Rattle.reports.specs.Reports.{Breach}
use Rattle.reports.specs.Decode.{long_at}
use Rattle.reports.specs.Sink.{sink, held, more, append, Sound}
use Rattle.reports.specs.Slots.{key_of, slots_of, Tabled, FreeFor, Finds, is_open, Filed}
use Rattle.reports.specs.Standing.{HeaderAt, Stands}
use Rattle.reports.specs.Laws.Slots.{open_short, open_tabled, open_room, free_within, place-fits, filed_more, filed_repeat}
use Rattle.reports.specs.Laws.Standing.{header_long, header_report, header_stands, further, further_sound, further_count}
use Rattle.reports.proofs.standing.file_next.Goals as goal

-- the table takes one more
module _ (s : List ℕ) (st : State) (p : Sound (sink s st)) (table : List ℕ) (filed : Filed (sink s st) table) (is : is_open (sink s st) table ≡ true) where
  tabled : Tabled (key_of table) (held (sink s st)) (slots_of table)
  tabled = open_tabled s st table p filed (sym is) refl

  some_free : length (held (sink s st)) < length (slots_of table)
  some_free = open_room s st table p filed (sym is) refl

  place : st.used < 4294967295
  place = place-fits s st table p filed (sym is) refl

  short : length s < 4294967295
  short = open_short s st table p filed (sym is) refl

-- the report that stands next, by its header
module _ (s : List ℕ) (st : State) (p : Sound (sink s st)) (yet : st.full ≡ false) (fits : st.used + 10 + long_at s st.used ≤ length s) (h : Header) (r : HeaderAt s st.used h) where
  abbrev end : ℕ
  end = st.used + 10 + h.long

  long-is : long_at s st.used ≡ h.long
  long-is = ap (λ (t : List ℕ). number 0 (take 2 t)) (sym (drop-drop 8 st.used s)) ∙ header_long s st.used h r

  inside : end ≤ length s
  inside = omega (arith, long-is)

  stands : Stands s st.used end
  stands = header_stands s st.used h r (take h.long (drop (st.used + 10) s)) refl inside

  end_fits : (table : List ℕ) → Filed (sink s st) table → is_open (sink s st) table ≡ true → end < 18446744073709551616
  end_fits table filed is = omega (arith, inside, short s st p table filed is)

  counts : st.count < end
  counts = further_count s st p yet end stands

  module _ (next : State) (n : next ≡ more st end) where
    next-is : next ≡ more st (st.used + 10 + long_at s st.used)
    next-is = n ∙ rw long-is

    next_sound : Sound (sink s next)
    next_sound = rw n (further_sound s st p yet end stands)

    module _ (m : List ℕ) (q : m ≡ take h.long (drop (st.used + 10) s)) (table : List ℕ) (filed : Filed (sink s st) table) (is : is_open (sink s st) table ≡ true) where
      abbrev b : Breach
      b = record { start = h.start; end = h.end; message = m }

      put_in : sink s (more st end) ≡ append (sink s st) b
      put_in = further s st p yet end stands ∙ ap (append (sink s st)) (header_report s st.used h r m q inside)

      module _ (slot : Option ℕ) (finds : Finds (key_of table) (held (sink s st)) (slots_of table) b slot) where
        seen : slot ≡ None → Filed (sink s next) table
        seen e = rw n (filed_repeat s st table p filed b put_in (tabled s st p table filed is) (rw e at finds) refl)

        module _ (j : ℕ) (e : slot ≡ Some j) where
          free : FreeFor (key_of table) (held (sink s st)) (slots_of table) b j
          free = rw e at finds

          free_inside : j + 1 < length table
          free_inside = free_within s st table p filed (sym is) refl b j free

          new : (table' : List ℕ) → table' ≡ set table (j + 1) (st.used + 1) → Filed (sink s next) table'
          new table' i = rw n (filed_more s st table p filed b put_in (tabled s st p table filed is) j free refl table' i)

ruleset steps = (rules, tabled, some_free, place, end_fits, counts, next-is, next_sound, seen, free_inside, new)

pub overflow_add-at-3 : goal.overflow_add-at-3
overflow_add-at-3 c = search steps

pub one_more-next-requires : goal.one_more-next-requires
one_more-next-requires c = search steps

pub find-requires-clause-tabled : goal.find-requires-clause-tabled
find-requires-clause-tabled c = search steps

pub find-requires-clause-state_in_bounds : goal.find-requires-clause-state_in_bounds
find-requires-clause-state_in_bounds c = search steps

pub returns-in-Some-clause-value : goal.returns-in-Some-clause-value
returns-in-Some-clause-value c = search steps

pub returns-in-Some-clause-sound_2 : goal.returns-in-Some-clause-sound_2
returns-in-Some-clause-sound_2 c = search steps

pub returns-in-Some-clause-filed_2 : goal.returns-in-Some-clause-filed_2
returns-in-Some-clause-filed_2 c = search steps

pub returns-in_default-clause-value : goal.returns-in_default-clause-value
returns-in_default-clause-value c = search steps

pub returns-in_default-clause-sound_2 : goal.returns-in_default-clause-sound_2
returns-in_default-clause-sound_2 c = search steps

pub returns-in_default-clause-filed_2 : goal.returns-in_default-clause-filed_2
returns-in_default-clause-filed_2 c = search steps
