-- `sweeps::entries::enter` meets its contract. Assumes nothing.
use mathlib.Core.Path.{◌≡◌, ap, ◌∙◌}
use mathlib.Core.Bool.{true, false}
use mathlib.Core.List.{List, [], ◌∷◌}
use Prim.Native.Nat.{ℕ, ◌+◌, ◌-◌, ◌≤◌, ◌<◌}
use native.Mathlib.Omega.{arith}
use lib.ListN.{length}
use borrow.Author.Rules.{rules}
use borrow.Author.Tests.{le-leb, lt-leb}
use Rattle.names.specs.Writer.{Stored}
use Rattle.reports.specs.declared.State.{State}
use Rattle.reports.specs.Sink.{sink, more, stopped}
use Rattle.sweeps.specs.Entries.{Entry, encoded}
use Rattle.sweeps.specs.Entering.{enter, Fit, Entered}
use Rattle.sweeps.specs.Laws.Entries.{length_encoded, entered_one}
use Rattle.sweeps.proofs.entries.enter.Statement.{statement}
use Rattle.sweeps.proofs.entries.enter.Tie as tie

module _ (s : List ℕ) (st : State) (p : Fit (sink s st)) (e : Entry) where
  over : st.full ≡ true → Entered s st (e ∷ []) s st
  unfolding enter
  over f = entered_one s st e p (rw f)

  module _ (f : st.full ≡ false) where
    not_fitting : length s - st.used < 20 → {r : State} → r ≡ stopped st → Entered s st (e ∷ []) s r
    unfolding enter
    not_fitting h q =
        let o : length s < st.used + 20 = omega (arith, p.within) in
        entered_one s st e p (rw (f, lt-leb _ _ o) (ap (sink s) q))

    module _ (h : 20 ≤ length s - st.used) where
      fitting_room : st.used + 20 ≤ length s
      fitting_room = omega (arith, p.within)

      module _ (s' : List ℕ) (next : ℕ) (w : Stored s st.used (encoded e) s' next) where
        fewer : st.count < next
        fewer = omega (arith, p.used, w.next, length_encoded e)

        fitting : {r : State} → r ≡ more st next → Entered s st (e ∷ []) s' r
        unfolding enter
        fitting q =
            let n : next ≡ st.used + 20 = omega (arith, w.next, length_encoded e) in
            entered_one s st e p (rw (f, le-leb _ _ fitting_room) (ap (sink s') q ∙ λ i. sink (w.bytes i) (more st (n i))))

ruleset steps = (rules, over, not_fitting, fitting_room, fewer, fitting)

pub enter_spec : {M : Type 1} → statement M
enter_spec =
    tie.close
    (tie.spec
    (λ c. search steps)
    (λ c. search steps)
    (λ c κs. search steps)
    (λ c. search steps)
    (λ c κs. search steps)
    (λ c κs. search steps)
    (λ c. search steps)
    (λ c. search steps))
