-- The calls of a stepping check: what each leaves of what is known between two of them. Assumes nothing.
use mathlib.Core.Path.{◌≡◌, refl, sym, ap, subst, ◌∙◌}
use mathlib.Core.Bool.{Bool, true, false, cond}
use mathlib.Core.List.{List, [], ◌∷◌, ◌++◌}
use mathlib.Core.Option.{Option, none, some}
use Prim.Native.Nat.{ℕ, ◌*◌, ◌≤◌, ◌<◌}
use native.Mathlib.Omega.{arith}
use lib.Dec.{eqb}
use lib.ListN.{length, length-append}
use borrow.Author.Tests.{eqb-true}
use Rattle.names.specs.Fields.{got, whole}
use Rattle.schema.specs.Schema.{Schema, schema_record}
use Rattle.condition.specs.Condition.{Condition, condition_record}
use Rattle.condition.specs.Walk.{reached}
use Rattle.targets.specs.Targets.{Target, Scope, target_record}
use Rattle.reports.specs.Reports.{Breach}
use Rattle.reports.specs.Sink.{start}
use Rattle.typecheck.specs.Check.{Choices, choices_of, is_checked, visits_under}
use Rattle.typecheck.specs.Answers.{check_outcome_of}
use Rattle.typecheck.specs.Run.{reading, begun_from}
use Rattle.typecheck.specs.Laws.Visits.{begun_few}
use Rattle.steps.specs.declared.Steps.{Steps}
use Rattle.steps.specs.Steps.{SteppedOutcome, first_pending, so_far, doing, step_over, step}
use Rattle.steps.specs.Answers.{stepped_of}
use Rattle.claims.specs.Breaches.{under}
use Rattle.claims.specs.Steps.{Held, record_of, done_in, check_so_far, StepOf}
use Rattle.claims.proofs.Written.{not_long}
use Rattle.claims.proofs.Visits.{by_target, nine_each}
use Rattle.claims.proofs.StepsList.{at, Marks, FirstAt, first_at, done_few, set_stays, step_marks, step_done}
use Rattle.claims.proofs.StepsLog.{after, Logged, answered, so_far_lem, done_state, doing_it, doing_logged}

-- ---- what is known between two calls: the list that record 3 holds, its marks, and the visits that were made

pub record Known (old : List ℕ) (scope : Scope) (list : List Target) (vs : List (List Breach)) (h : Held) : Type 0 where
  pub end : ℕ
  pub read : whole target_record (record_of h) ≡ got (under scope list) end
  pub marks : Marks h.state.marks (length list)
  pub log : Logged old vs h.state h.reports
  -- each target has 3,641 visits at the most
  pub few : length vs ≤ 3641 * length (done_in h.state.marks list)

-- what an outcome leaves of what was held
abbrev pub left : Held → SteppedOutcome → Held
left before o = record { list = before.list; size = before.size; state = o.state; reports = o.check.outcome.buffer }

module _ (schema_bytes condition_bytes : List ℕ) where
  -- ---- a step

  module _ (before next : Held) (r : StepOf schema_bytes condition_bytes before next) (o : SteppedOutcome)
      (e : step before.state schema_bytes condition_bytes (record_of before) before.reports ≡ o) where
    pub step_left : next ≡ left before o
    unfolding stepped_of check_outcome_of
    step_left =
        r.leaves ∙ λ i. record { list = before.list; size = before.size; state = ((r.contract ∙ e) i).state; reports = ((r.contract ∙ e) i).check.outcome.buffer }

    pub step_answer : check_outcome_of r.result.answer next.reports ≡ o.check
    unfolding stepped_of check_outcome_of
    step_answer = ap (λ (h : Held). check_outcome_of r.result.answer h.reports) r.leaves ∙ λ i. ((r.contract ∙ e) i).check

  module _ (s : Schema) (c : Condition) {m n : ℕ} (is_s : whole schema_record schema_bytes ≡ got s m) (is_c : whole condition_record condition_bytes ≡ got c n) where
    -- under one target
    few_under : (k : Choices) (scope : Scope) (t : Target) → length (visits_under k s c scope t) ≤ 3641
    few_under k scope t = go (is_checked s scope t) _ (by_target k s c scope t)
      where
        go : (b : Bool) (v : ℕ) → v ≡ cond b (length (reached c)) 0 → v ≤ 3641
        go true v e = omega (arith, e, nine_each condition_bytes is_c, not_long condition_record condition_bytes is_c)
        go false v e = omega (arith, e)

    module _ (old : List ℕ) (scope : Scope) (list : List Target) (vs : List (List Breach)) (before : Held) (so : Known old scope list vs before) where
      abbrev st : Steps
      st = before.state

      abbrev k : Choices
      k = choices_of st.rules

      -- the records are read again, and hold what they held
      step_over_lem : step st schema_bytes condition_bytes (record_of before) before.reports ≡ step_over k s c (under scope list) st before.reports
      unfolding step reading
      step_over_lem = rw (is_s, is_c, so.read)

      -- a target is done
      pub record Did (next : Held) (t : Target) : Type 0 where
        pub known : Known old scope list (vs ++ visits_under k s c scope t) next
        pub done : done_in next.state.marks list ≡ done_in st.marks list ++ (t ∷ [])
        pub rules : next.state.rules ≡ st.rules
        pub marks : (i : ℕ) → (at st.marks i ≡ 0 → ⊥) → at next.state.marks i ≡ at st.marks i
        pub answer : check_so_far next ≡ answered old (vs ++ visits_under k s c scope t)

      -- or nothing changes; the answer is that of the check so far, either way
      pub data Went (next : Held) : Type 0 where
        idle : next ≡ before → Went next
        did : (t : Target) → st.stopped ≡ 0 → Did next t → Went next

      pub record StepView (next : Held) (r : StepOf schema_bytes condition_bytes before next) : Type 0 where
        pub went : Went next
        pub answer : check_outcome_of r.result.answer next.reports ≡ check_so_far next

      open_yet : (full : Bool) → st.stopped ≡ cond full 1 0 → st.stopped ≡ 0 → full ≡ false
      open_yet true e z = absurd (omega (arith, e, z))
      open_yet false e z = refl

      module _ (j : ℕ) (t : Target) (z : st.stopped ≡ 0) (f : FirstAt st.marks 0 list j t) where
        abbrev us : List (List Breach)
        us = visits_under k s c scope t

        free : (after old vs).state.full ≡ false
        free = open_yet (after old vs).state.full so.log.stopped z

        abbrev to : Held
        to = left before (record { check = answered old (vs ++ us); state = done_state old vs st before.reports so.log k s c scope j t free })

        did_done : done_in to.state.marks list ≡ done_in st.marks list ++ (t ∷ [])
        did_done = step_done st.marks list so.marks f

        did_few : length (vs ++ us) ≤ 3641 * length (done_in to.state.marks list)
        did_few =
            omega (arith, so.few, length-append vs us, few_under k scope t, ap length did_done, length-append (done_in st.marks list) (t ∷ []))

        did_below : begun_from (start old) (vs ++ us) < 4294967296
        did_below = omega (arith, begun_few (start old) (vs ++ us), did_few, done_few to.state.marks 0 list, so.marks.few)

        did_it : doing k s c scope st before.reports (j, t) ≡ record { check = answered old (vs ++ us); state = to.state }
        did_it = doing_it old vs st before.reports so.log k s c scope j t free did_below

        did_known : Did to t
        did_known =
            let log = doing_logged old vs st before.reports so.log k s c scope j t free did_below in
            record {
              known = record { end = so.end; read = so.read; marks = step_marks st.marks list so.marks f; log = log; few = did_few };
              done = did_done;
              rules = refl;
              marks = set_stays st.marks list so.marks j 1 f.waits;
              answer = so_far_lem old (vs ++ us) to.state to.reports log;
            }

      module _ (next : Held) (r : StepOf schema_bytes condition_bytes before next) where
        by_outcome : (o : SteppedOutcome) → step_over k s c (under scope list) st before.reports ≡ o → (Went (left before o)) → check_so_far (left before o) ≡ o.check → StepView next r
        by_outcome o e went answer =
            let is = step_left before next r o (step_over_lem ∙ e) in
            record {
              went = subst Went (sym is) went;
              answer = step_answer before next r o (step_over_lem ∙ e) ∙ sym answer ∙ sym (ap check_so_far is);
            }

        step_idle : step_over k s c (under scope list) st before.reports ≡ so_far st before.reports → StepView next r
        unfolding so_far
        step_idle e = by_outcome (so_far st before.reports) e (idle refl) refl

        step_did : (j : ℕ) (t : Target) → st.stopped ≡ 0 → first_pending st.marks 0 list ≡ some (j, t) → step_over k s c (under scope list) st before.reports ≡ doing k s c scope st before.reports (j, t) → StepView next r
        step_did j t z f e =
            let v = first_at st.marks 0 list f in
            by_outcome (record { check = answered old (vs ++ us j t z v); state = (to j t z v).state }) (e ∙ did_it j t z v) (did t z (did_known j t z v)) (did_known j t z v).answer

        pub step_view : StepView next r
        unfolding step_over
        step_view = go (eqb st.stopped 0) refl (first_pending st.marks 0 list) refl
          where
            go : (b : Bool) → eqb st.stopped 0 ≡ b → (o : Option (ℕ × Target)) → first_pending st.marks 0 list ≡ o → StepView next r
            go false e o f = step_idle (rw e)
            go true e none f = step_idle (rw (e, f))
            go true e (some p) f = step_did p.0 p.1 (eqb-true _ _ e) f (rw (e, f))
