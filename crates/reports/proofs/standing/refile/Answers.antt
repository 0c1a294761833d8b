-- `reports::standing::refile` meets its contract. The loop's invariant: the first reports of the buffer are in the table. Assumes nothing.
use mathlib.Core.Path.{◌≡◌, refl, sym, ap, ◌∙◌}
use mathlib.Core.Bool.{Bool, true, false, true≢false, false≢true}
use mathlib.Core.List.{List, ◌∷◌, ◌++◌}
use Prim.Native.Nat.{ℕ, zero, suc, ◌+◌, ◌-◌, ◌≤◌, ◌<◌}
use native.Mathlib.Omega.{arith}
use lib.ListN.{length}
use borrow.Author.Rules.{rules}
use borrow.Author.Tests.{lt-ltb}
use Rattle.reports.specs.declared.State.{State}
use Rattle.reports.specs.Reports.{Breach}
use Rattle.reports.specs.Decode.{long_at, report, behind, reports}
use Rattle.reports.specs.Sink.{sink, held, none, more, Sound}
use Rattle.reports.specs.Slots.{slots_of, room, is_open, Filed, Empty}
use Rattle.reports.specs.Laws.Sinks.{sound_start}
use Rattle.reports.specs.Laws.Slots.{held_count, held_used, report_whole, filed_start}
use Rattle.reports.proofs.standing.refile.Invariants.{SoFar}
use Rattle.reports.proofs.standing.refile.Goals as goal

-- the report behind the first k of more than so many
record Behind (k n : ℕ) (s : List ℕ) : Type 0 where
  here : Breach
  after : List Breach
  split : reports n s ≡ reports k s ++ (here ∷ after)

behind_first : (k n : ℕ) (s : List ℕ) → k < n → Behind k n s
unfolding reports
behind_first k zero s h = absurd (omega arith)
behind_first zero (suc n) s h = record { here = report s; after = reports n (behind s); split = refl }
behind_first (suc k) (suc n) s h =
    let b = behind_first k n (behind s) (omega arith) in
    record { here = b.here; after = b.after; split = ap (λ (bs : List Breach). report s ∷ bs) b.split }

-- what the test says where it holds, t being the code's answer
takes_more : (x t : Bool) → t ≡ x → t ≡ true → x ≡ true
takes_more x t is e = sym is ∙ e

begins : (s : List ℕ) (st : State) (table : List ℕ) → Empty table → (first : State) → (first.used ≡ 0) × ((first.count ≡ 0) × (first.full ≡ false)) → SoFar s st table first
begins s st table e first q =
    let is : first ≡ none = λ i. record { used = q.0 i; count = q.1.0 i; full = q.1.1 i } in
    rw is (record { sound = sound_start s; yet = refl; filed = filed_start s table e; fewer = omega arith })

module _ (s : List ℕ) (st : State) (p : Sound (sink s st)) (table : List ℕ) (first : State) (inv : SoFar s st table first) where
  first_sound : Sound (sink s first)
  first_sound = inv.sound

  first_yet : first.full ≡ false
  first_yet = inv.yet

  first_filed : Filed (sink s first) table
  first_filed = inv.filed

  -- all of them
  ends : st.count ≤ first.count → Filed (sink s st) table
  ends h =
      let e : first.count ≡ st.count = omega (arith, inv.fewer) in
      let same : held (sink s first) ≡ held (sink s st) = ap (λ (n : ℕ). reports n s) e in
      record { tabled = λ few short. rw (← same) (inv.filed.tabled (rw (← same) at few) short) }

  module _ (h : first.count < st.count) where
    -- the table takes no more, and there are more
    shut : (t : Bool) → t ≡ is_open (sink s first) table → t ≡ false → Filed (sink s st) table
    shut true is e = absurd (true≢false e)
    shut false is e = record {
      tabled = λ few short.
          let open_yet : first.count < room (length (slots_of table)) = omega (arith, held_count (sink s st) p) in
          absurd (false≢true (is ∙ rw (lt-ltb first.count (room (length (slots_of table))) open_yet, lt-ltb (length s) 4294967295 short)));
    }

    next_whole : first.used + 10 + long_at s first.used ≤ length s
    next_whole =
        let b = behind_first first.count st.count s h in
        rw (held_used (sink s first) inv.sound) (report_whole (sink s st) p (held (sink s first)) b.here b.after b.split)

    module _ (r : State) (is : r ≡ more first (first.used + 10 + long_at s first.used)) where
      goes_on : Sound (sink s r) → (table' : List ℕ) → Filed (sink s r) table' → SoFar s st table' r
      goes_on q table' f = record { sound = q; yet = ap (λ (x : State). x.full) is; filed = f; fewer = omega (arith, ap (λ (x : State). x.count) is) }

      less : st.count - r.count < st.count - first.count
      less = omega (arith, ap (λ (x : State). x.count) is)

ruleset steps = (rules, begins, first_sound, first_yet, first_filed, ends, shut, next_whole, goes_on, less)

pub loop-filed-init : goal.loop-filed-init
loop-filed-init c = search steps

pub returns-then-not-is_open : goal.returns-then-not-is_open
returns-then-not-is_open c = search steps

pub file_next-filed-requires-clause-used_in_bounds : goal.file_next-filed-requires-clause-used_in_bounds
file_next-filed-requires-clause-used_in_bounds c = search steps
