-- The targets done, and the check so far, at a point of a history of which it is known since when the rules are these. Assumes nothing.
use mathlib.Core.Path.{◌≡◌, sym, ap, subst, ◌∙◌}
use mathlib.Core.Bool.{Bool, cond}
use mathlib.Core.List.{List, [], ◌++◌}
use Prim.Native.Nat.{ℕ}
use native.Mathlib.Omega.{arith}
use lib.ListN.{length}
use borrow.Author.Tests.{eq-eqb, ne_eqb}
use Rattle.names.specs.Lists.{gather}
use Rattle.names.specs.Fields.{got, whole}
use Rattle.schema.specs.Schema.{Schema}
use Rattle.schema.specs.Places.{schema_in}
use Rattle.condition.specs.Condition.{Condition}
use Rattle.condition.specs.Places.{record_in}
use Rattle.targets.specs.Targets.{Target, Targets, target_record}
use Rattle.reports.specs.Reports.{Breach, once, reported}
use Rattle.typecheck.specs.Check.{begun, CheckOutcome}
use Rattle.typecheck.specs.Answers.{check_outcome_of}
use Rattle.typecheck.specs.Run.{found_by}
use Rattle.steps.specs.Steps.{so_far}
use Rattle.claims.specs.Written.{of_target, written}
use Rattle.claims.specs.Breaches.{Accepted, under}
use Rattle.claims.specs.Steps.{Held, record_of, targets_of, done_in, done_by, check_so_far, StepOf, Call}
use Rattle.claims.proofs.Written.{some_of}
use Rattle.claims.proofs.StepsList.{done_among, done_fewer}
use Rattle.claims.proofs.StepsLog.{answered_check, so_far_lem}
use Rattle.claims.proofs.StepsCalls.{Went, idle, did, StepView, step_view}
use Rattle.claims.proofs.StepsHistory.{Fixed, Past, targets_are, visits_by, Since, onward_call}

-- ---- 11

-- the number of the check so far says whether a report did not fit
pub stopped_number : (h : Held) → (h.state.stopped ≡ 0 → ⊥) → (check_so_far h).outcome.answer.number ≡ 11
unfolding so_far
stopped_number h e = ap (λ (b : Bool). cond b 0 11) (ne_eqb h.state.stopped 0 e)

pub number_stopped : (h : Held) → (check_so_far h).outcome.answer.number ≡ 11 → h.state.stopped ≡ 0 → ⊥
unfolding so_far
number_stopped h e z = let w : ◌≡◌ {A = ℕ} 0 11 = sym (ap (λ (b : Bool). cond b 0 11) (eq-eqb h.state.stopped 0 z)) ∙ e in omega arith

-- the two records with a third
pub accepted_with : {schema_bytes condition_bytes old : List ℕ} → Fixed schema_bytes condition_bytes old → (bytes : List ℕ) {ts : Targets} {end : ℕ} → whole target_record bytes ≡ got ts end
    → Accepted schema_bytes condition_bytes bytes (schema_in schema_bytes) (record_in condition_bytes) ts
accepted_with g bytes {ts} {end} e = record { schema_end = g.schema_end; schema = g.schema; condition_end = g.condition_end; condition = g.condition; targets_end = end; targets = e }

module _ {schema_bytes condition_bytes old : List ℕ} (g : Fixed schema_bytes condition_bytes old) (p : Past schema_bytes condition_bytes) where
  abbrev s : Schema
  s = schema_in schema_bytes

  abbrev c : Condition
  c = record_in condition_bytes

  abbrev pub Now : Held → Type 0
  Now = Since schema_bytes condition_bytes old g p

  module _ (h : Held) (so : Now h) where
    -- the targets and the visits
    abbrev pub all : List Target
    all = p.front ++ so.behind

    abbrev pub made : List (List Breach)
    made = p.earlier ++ gather (visits_by schema_bytes condition_bytes old g p.rules) so.behind

    pub now-is : targets_of h ≡ under g.scope so.list
    now-is = targets_are old g.scope so.list made h so.known

    pub done-is : done_by h ≡ under g.scope all
    done-is = ap (λ (ts : Targets). under ts.scope (done_in h.state.marks ts.list)) now-is ∙ ap (under g.scope) so.done

    -- the record of the targets done is accepted
    pub done_read : whole target_record (written (done_by h)) ≡ got (done_by h) (length (written (done_by h)))
    done_read =
        subst (λ (ts : Targets). whole target_record (written ts) ≡ got ts (length (written ts))) (sym done-is)
        (some_of g.scope so.list all (record_of h) so.known.read
        (λ t i. done_among h.state.marks 0 so.list t (rw so.done i))
        (rw (← so.done) (done_fewer h.state.marks of_target 0 so.list)))

    -- the check so far is that of the visits
    pub check_made : check_so_far h ≡ record { outcome = reported (once [] (found_by made)) old; visits = begun old [] made }
    check_made = so_far_lem old made h.state h.reports so.known.log ∙ answered_check old made

    -- a step
    module _ (after : Held) (r : StepOf schema_bytes condition_bytes h after) where
      view : StepView schema_bytes condition_bytes s c g.schema g.condition old g.scope so.list made h so.known after r
      view = step_view schema_bytes condition_bytes s c g.schema g.condition old g.scope so.list made h so.known after r

      pub step_since : Now after
      step_since = (onward_call schema_bytes condition_bytes old g p h after so (Call.steps r)).since

      pub step_answers : check_outcome_of r.result.answer after.reports ≡ check_so_far after
      step_answers = view.answer

      pub step_number : r.result.answer.number ≡ (check_so_far after).outcome.answer.number
      unfolding check_outcome_of
      step_number = ap (λ (o : CheckOutcome). o.outcome.answer.number) step_answers

      pub step_stopped : (h.state.stopped ≡ 0 → ⊥) → after ≡ h
      step_stopped e = go view.went
        where
          go : Went schema_bytes condition_bytes s c g.schema g.condition old g.scope so.list made h so.known after → after ≡ h
          go (idle is) = is
          go (did t z d) = absurd (e z)
