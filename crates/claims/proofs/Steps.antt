-- The stepping check is one check over the targets done: `stepping` is the claim of `specs/Steps.antt`. Assumes nothing.
use mathlib.Core.Path.{◌≡◌, refl, sym, ap, ◌∙◌}
use mathlib.Core.List.{List, [], ◌∷◌, ◌++◌}
use Prim.Native.Nat.{ℕ}
use native.Mathlib.Omega.{arith}
use lib.ListN.{length}
use borrow.Author.Tests.{eq-eqb}
use Rattle.names.specs.Lists.{gather}
use Rattle.schema.specs.Schema.{Schema}
use Rattle.schema.specs.Places.{schema_in}
use Rattle.condition.specs.Condition.{Condition}
use Rattle.condition.specs.Places.{record_in}
use Rattle.targets.specs.Targets.{Target, Targets, target_record}
use Rattle.reports.specs.Reports.{Breach, once, reported}
use Rattle.typecheck.specs.Check.{choices_of, visits_under, begun, checked_by, checked, check_with_by, check_with}
use Rattle.typecheck.specs.Answers.{check_outcome_of}
use Rattle.typecheck.specs.Laws.Visits.{found_all}
use Rattle.steps.specs.declared.Steps.{Steps}
use Rattle.steps.specs.Steps.{is_pending, so_far}
use Rattle.claims.specs.Written.{written}
use Rattle.claims.specs.Breaches.{Accepted, Run}
use Rattle.claims.specs.Steps.{Held, record_of, targets_of, done_by, check_so_far, AppendOf, Calls, OneCheck, EachStep, AsRun, After11, Stays, InOrder, Appended, SteppingCheck}
use Rattle.claims.proofs.Demand3.{alone, demand3}
use Rattle.claims.proofs.StepsList.{at}
use Rattle.claims.proofs.StepsBetween.{append_more, refused_same}
use Rattle.claims.proofs.StepsHistory.{in_place, Fixed, Started, started, targets_are, Past, past, Since, from_here, onward}
use Rattle.claims.proofs.StepsDone.{stopped_number, number_stopped, accepted_with, made, now-is, done-is, done_read, check_made, step_since, step_answers, step_number, step_stopped}

-- the check of three records that are accepted
check_read : (rules : ℕ) (schema_bytes condition_bytes target_bytes old : List ℕ) {s : Schema} {c : Condition} {ts : Targets} → Accepted schema_bytes condition_bytes target_bytes s c ts
    → check_with rules schema_bytes condition_bytes target_bytes old ≡ checked (choices_of rules) s c ts old
unfolding check_with_by
check_read rules schema_bytes condition_bytes target_bytes old a = rw (a.schema, a.condition, a.targets)

module _ {schema_bytes condition_bytes old : List ℕ} (g : Fixed schema_bytes condition_bytes old) (rules : ℕ) where
  -- all targets done are done since the start
  abbrev all : Past schema_bytes condition_bytes
  all = record { rules = rules; front = []; earlier = [] }

  abbrev Now : Held → Type 0
  Now = Since schema_bytes condition_bytes old g all

  module _ (h : Held) (so : Now h) where
    -- what the check of the targets done answers is what the check so far does
    check-is : check_so_far h ≡ check_with rules schema_bytes condition_bytes (written (done_by h)) old
    unfolding checked_by
    check-is =
        let k = choices_of rules in
        let s = schema_in schema_bytes in
        let c = record_in condition_bytes in
        check_made g all h so
        ∙ ap (λ (bs : List Breach). record { outcome = reported (once [] bs) old; visits = begun old [] (gather (visits_under k s c g.scope) so.behind) }) (found_all k s c g.scope so.behind)
        ∙ ap (λ (ts : Targets). checked k s c ts old) (sym (done-is g all h so))
        ∙ sym (check_read rules schema_bytes condition_bytes (written (done_by h)) old (accepted_with g (written (done_by h)) (done_read g all h so)))

    one_check_lem : (first : Held) → (targets_of first).scope ≡ g.scope → OneCheck schema_bytes condition_bytes rules old first h
    one_check_lem first e =
        record {
          accepted = accepted_with g (record_of h) (in_place target_record (record_of h) _ so.known.read);
          scope = ap (λ (ts : Targets). ts.scope) (now-is g all h so) ∙ sym e;
          done = accepted_with g (written (done_by h)) (done_read g all h so);
          check = check-is;
        }

    -- the run that leaves the same
    run_so : Run rules schema_bytes condition_bytes (written (done_by h))
    unfolding so_far check_outcome_of
    run_so =
        let o = check_so_far h in
        record {
          answer = record { number = o.outcome.answer.number; «record» = 0; count = o.outcome.answer.count; visits = o.visits };
          before = old;
          after = h.reports;
          contract = check-is;
        }

    as_run_lem : AsRun schema_bytes condition_bytes rules old h
    unfolding so_far check_outcome_of run_so
    as_run_lem =
        let s = schema_in schema_bytes in
        let c = record_in condition_bytes in
        record {
          run = run_so;
          before = refl;
          after = refl;
          answer = refl;
          claim = demand3 rules schema_bytes condition_bytes s c;
          exact = λ room. alone rules schema_bytes condition_bytes s c (written (done_by h)) (done_by h) (accepted_with g (written (done_by h)) (done_read g all h so)) run_so room;
        }

    stays : (after : Held) → Calls schema_bytes condition_bytes h after → Stays schema_bytes condition_bytes h after
    stays after calls = (onward schema_bytes condition_bytes old g all h after so calls).stays

    in_order_lem : (after : Held) → Calls schema_bytes condition_bytes h after → InOrder schema_bytes condition_bytes h after
    in_order_lem after calls =
        let p = past schema_bytes condition_bytes old g all h so rules in
        let x = (onward schema_bytes condition_bytes old g p h after (from_here schema_bytes condition_bytes old g all h so) calls).since in
        record { since = x.behind; done = ap (λ (ts : Targets). ts.list) (done-is g p after x) ∙ ap (λ (ts : Targets). ts.list ++ x.behind) (sym (done-is g all h so)) }

    appended : (after : Held) (r : AppendOf schema_bytes condition_bytes h after) → r.result.number ≡ 0 → Appended schema_bytes condition_bytes h after r.new
    unfolding is_pending
    appended after r z =
        let vs = made g all h so in
        let a = append_more schema_bytes condition_bytes h after old g.scope so.list vs so.known r z in
        let is : (targets_of h).list ≡ so.list = ap (λ (ts : Targets). ts.list) (now-is g all h so) in
        record {
          target = a.target;
          given = a.given;
          list =
              ap (λ (ts : Targets). ts.list) (targets_are old g.scope (so.list ++ (a.target ∷ [])) vs after a.known)
              ∙ ap (λ (l : List Target). l ++ (a.target ∷ [])) (sym is);
          waits =
              eq-eqb _ _
              (ap (λ (st : Steps). at st.marks (length (targets_of h).list)) a.state
              ∙ ap (λ (l : List Target). at h.state.marks (length l)) is
              ∙ so.known.marks.beyond (length so.list) (omega arith));
        }

  each_step_lem : (h : Held) → Now h → EachStep schema_bytes condition_bytes rules old h
  each_step_lem h so after r = step_answers g all h so after r ∙ check-is after (step_since g all h so after r)

  after_11 : (h : Held) → Now h → After11 schema_bytes condition_bytes h
  after_11 h so after r e later last calls next =
      let x = onward schema_bytes condition_bytes old g all after later (step_since g all h so after r) calls in
      let full = number_stopped after (sym (step_number g all h so after r) ∙ e) in
      let still : later.state.stopped ≡ 0 → ⊥ = λ z. full (sym (x.stopped full) ∙ z) in
      let same = step_stopped g all later x.since last next still in
      (step_number g all later x.since last next ∙ ap (λ (h : Held). (check_so_far h).outcome.answer.number) same ∙ stopped_number later still, same)

-- ---- the claim

-- what is known at the start
pub at_start : {schema_bytes condition_bytes old : List ℕ} {rules : ℕ} {first : Held} (b : Started schema_bytes condition_bytes rules old first) → Since schema_bytes condition_bytes old b.fixed (record { rules = rules; front = []; earlier = [] }) first
unfolding gather
at_start b = record { list = b.list; behind = []; done = b.done; known = b.known; same = b.same }

pub stepping : SteppingCheck
stepping schema_bytes condition_bytes rules old first now history =
    let b = started schema_bytes condition_bytes rules old first history.start in
    let g = b.fixed in
    let so = (onward schema_bytes condition_bytes old g (all g rules) first now (at_start b) history.calls).since in
    record {
      one_check = one_check_lem g rules now so first (ap (λ (ts : Targets). ts.scope) (targets_are old g.scope b.list [] first b.known));
      each_step = each_step_lem g rules now so;
      as_run = as_run_lem g rules now so;
      after11 = after_11 g rules now so;
      refused = λ after. refused_same schema_bytes condition_bytes now after;
      stays = stays g rules now so;
      in_order = in_order_lem g rules now so;
      appended = appended g rules now so;
    }
