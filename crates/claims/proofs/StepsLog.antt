-- The buffer of reports and the state after some visits: what the check so far answers, and how a target more goes on from there. Assumes nothing.
use mathlib.Core.Path.{◌≡◌, refl, sym, ap, ap₂, ◌∙◌}
use mathlib.Core.Bool.{Bool, true, false, cond}
use mathlib.Core.List.{List, [], ◌++◌, append-nil}
use Prim.Native.Nat.{ℕ, ◌+◌, ◌-◌, ◌<◌}
use native.Mathlib.Omega.{arith}
use lib.Dec.{ltb, eqb}
use lib.ListN.{length, set, take, drop, drop_of_length-le}
use borrow.Author.Tests.{lt-ltb}
use Rattle.schema.specs.Schema.{Schema}
use Rattle.condition.specs.Condition.{Condition}
use Rattle.targets.specs.Targets.{Target, Scope}
use Rattle.reports.specs.Reports.{Breach, once, reported}
use Rattle.reports.specs.Kept.{fold}
use Rattle.reports.specs.Sink.{Sink, push_all, start, outcome, Sound}
use Rattle.reports.specs.Standing.{standing, resumed}
use Rattle.reports.specs.Laws.Sinks.{sound_start, push_all_reported}
use Rattle.reports.specs.Laws.Standing.{standing_count, resumed_held, sound_push_all, push_all_long, push_all_used}
use Rattle.typecheck.specs.Check.{Choices, breaches_under, visits_under, begun, CheckOutcome}
use Rattle.typecheck.specs.Run.{found_by, begun_from}
use Rattle.typecheck.specs.Laws.Visits.{found_under, found_append, begun_append, begun_run}
use Rattle.steps.specs.declared.Steps.{Steps}
use Rattle.steps.specs.Steps.{so_far, capped, done_with, doing}

module _ (old : List ℕ) where
  -- what some visits leave in the buffer, put in from no report
  abbrev pub after : List (List Breach) → Sink
  after vs = push_all (start old) (found_by vs)

  sound_after : (vs : List (List Breach)) → Sound (after vs)
  sound_after vs = sound_push_all (start old) (found_by vs) (sound_start old)

  -- the state and the buffer are those of these visits
  pub record Logged (vs : List (List Breach)) (st : Steps) (buffer : List ℕ) : Type 0 where
    pub bytes : buffer ≡ (after vs).bytes
    pub used : st.used ≡ (after vs).state.used
    pub stopped : st.stopped ≡ cond (after vs).state.full 1 0
    pub visits : st.visits ≡ begun_from (start old) vs

  -- what is answered of them
  abbrev pub answered : List (List Breach) → CheckOutcome
  answered vs = record { outcome = outcome (after vs); visits = begun_from (start old) vs }

  -- it is the answer of a check that makes them
  pub answered_check : (vs : List (List Breach)) → answered vs ≡ record { outcome = reported (once [] (found_by vs)) old; visits = begun old [] vs }
  unfolding fold
  answered_check vs = λ i. record { outcome = push_all_reported old (found_by vs) i; visits = begun_run old [] vs i }

  module _ (vs : List (List Breach)) (st : Steps) (buffer : List ℕ) (l : Logged vs st buffer) where
    pub so_far_lem : (so_far st buffer).check ≡ answered vs
    unfolding so_far
    so_far_lem = λ i. record {
      outcome =
          record {
            answer = record { number = (ap (λ (n : ℕ). cond (eqb n 0) 0 11) l.stopped ∙ turned (after vs).state.full) i; record_number = 0; count = count i };
            buffer = l.bytes i;
          };
      visits = l.visits i;
    }
      where
        turned : (full : Bool) → ◌≡◌ {A = ℕ} (cond (eqb (cond full 1 0) 0) 0 11) (cond full 11 0)
        turned true = refl
        turned false = refl

        count : length (standing (take st.used buffer)) ≡ (after vs).state.count
        count = ap₂ (λ (n : ℕ) (s : List ℕ). length (standing (take n s))) l.used l.bytes ∙ standing_count (after vs) (sound_after vs)

    -- a target more, where all fitted before it
    module _ (k : Choices) (s : Schema) (c : Condition) (scope : Scope) (i : ℕ) (t : Target) (open_yet : (after vs).state.full ≡ false) where
      abbrev more : List (List Breach)
      more = vs ++ visits_under k s c scope t

      abbrev next : Sink
      next = after more

      taken_up : resumed st.used buffer ≡ after vs
      taken_up = ap₂ resumed l.used l.bytes ∙ resumed_held (after vs) (sound_after vs) open_yet

      goes_on : push_all (after vs) (breaches_under k s c scope t) ≡ next
      goes_on = ap (push_all (after vs)) (sym (found_under k s c scope t)) ∙ sym (found_append (start old) vs (visits_under k s c scope t))

      -- the state and the answer that it leaves
      abbrev pub done_state : Steps
      done_state =
          record { rules = st.rules; stopped = cond next.state.full 1 0; marks = set st.marks i 1; used = next.state.used; visits = begun_from (start old) more }

      whole_buffer : next.bytes ++ drop (length next.bytes) buffer ≡ next.bytes
      whole_buffer =
          ap (λ (r : List ℕ). next.bytes ++ r)
          (drop_of_length-le buffer {i = length next.bytes} (omega (arith, ap length l.bytes, push_all_long old (found_by vs), push_all_long old (found_by more))))
          ∙ append-nil next.bytes

      all_used : st.used + (next.state.used - (after vs).state.used) ≡ next.state.used
      all_used = omega (arith, l.used, push_all_used (after vs) (found_by (visits_under k s c scope t)), ap (λ (a : Sink). a.state.used) (found_append (start old) vs (visits_under k s c scope t)))

      module _ (few : begun_from (start old) more < 4294967296) where
        all_visits : capped (st.visits + begun_from (after vs) (visits_under k s c scope t)) ≡ begun_from (start old) more
        unfolding capped
        all_visits =
            let e : st.visits + begun_from (after vs) (visits_under k s c scope t) ≡ begun_from (start old) more = omega (arith, l.visits, begun_append (start old) vs (visits_under k s c scope t)) in
            ap (λ (n : ℕ). cond (ltb n 4294967296) n 4294967295) e ∙ ap (λ (b : Bool). cond b (begun_from (start old) more) 4294967295) (lt-ltb _ _ few)

        pub doing_it : doing k s c scope st buffer (i, t) ≡ record { check = answered more; state = done_state }
        unfolding doing done_with
        doing_it =
            ap (λ (a : Sink). done_with st i a.state (push_all a (breaches_under k s c scope t)).state (begun_from a (visits_under k s c scope t)) ((push_all a (breaches_under k s c scope t)).bytes ++ drop (length (push_all a (breaches_under k s c scope t)).bytes) buffer)) taken_up
            ∙ ap (λ (b : Sink). done_with st i (after vs).state b.state (begun_from (after vs) (visits_under k s c scope t)) (b.bytes ++ drop (length b.bytes) buffer)) goes_on
            ∙ λ j. record {
              check = record { outcome = record { answer = (outcome next).answer; buffer = whole_buffer j }; visits = all_visits j };
              state =
                  record {
                    rules = st.rules;
                    stopped = cond next.state.full 1 0;
                    marks = set st.marks i 1;
                    used = all_used j;
                    visits = all_visits j;
                  };
            }

        pub doing_logged : Logged more done_state next.bytes
        doing_logged = record { bytes = refl; used = refl; stopped = refl; visits = refl }
