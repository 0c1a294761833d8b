-- Whole histories of a stepping check: what is known at their start, and after any calls since. Assumes nothing.
use mathlib.Core.Path.{◌≡◌, refl, sym, ap, subst, ◌∙◌}
use mathlib.Core.Bool.{Bool, true, false}
use mathlib.Core.List.{List, [], ◌∷◌, ◌++◌, append_assoc, append-nil}
use Prim.Native.Nat.{ℕ, ◌≤◌, ◌<◌}
use native.Mathlib.Omega.{arith}
use native.Mathlib.Decide.{dec_lt}
use lib.Dec.{eqb}
use lib.ListN.{length, replicate, length-replicate, get_or-replicate, get_or-eq_default}
use borrow.Author.Tests.{eqb-true, eqb-false}
use Rattle.names.specs.Lists.{gather}
use Rattle.names.specs.Laws.Lists.{gather_append}
use Rattle.names.specs.Fields.{Reader, Got, got, bad, whole, number_of}
use Rattle.names.specs.Read.{value_or}
use Rattle.names.specs.Laws.Readers.{has_value}
use Rattle.schema.specs.Schema.{Schema, schema_record}
use Rattle.schema.specs.Places.{schema_in}
use Rattle.condition.specs.Condition.{Condition, condition_record}
use Rattle.condition.specs.Places.{record_in}
use Rattle.targets.specs.Targets.{Target, Targets, Scope, target_record}
use Rattle.reports.specs.Reports.{Breach}
use Rattle.reports.specs.Kept.{fold}
use Rattle.typecheck.specs.Check.{choices_of, visits_under}
use Rattle.typecheck.specs.Answers.{check_outcome_of}
use Rattle.typecheck.specs.Run.{Reading, refused, read, reading, by_reading, begun_from}
use Rattle.steps.specs.declared.Steps.{Steps}
use Rattle.steps.specs.Steps as steps
use Rattle.steps.specs.Steps.{is_pending, begins, unchanged}
use Rattle.steps.specs.Answers.{stepped_of}
use Rattle.claims.specs.Breaches.{under}
use Rattle.claims.specs.Steps.{Held, record_of, targets_of, done_in, StartOf, StepOf, AppendOf, WithdrawOf, Call, Calls, none, more, Stays}
use Rattle.claims.proofs.StepsList.{at, Marks, done_none}
use Rattle.claims.proofs.StepsRecord.{few_targets}
use Rattle.claims.proofs.StepsCalls.{Known, Did, Went, idle, did, step_view}
use Rattle.claims.proofs.StepsBetween.{More, Fewer, append_more, withdraw_fewer, refused_same}

-- ---- the start

-- no target is done, and no visit was made
none_marked : (i : ℕ) → at (replicate 256 0) i ≡ 0
none_marked i = go (dec_lt i 256)
  where
    go : Dec (i < 256) → at (replicate 256 0) i ≡ 0
    go (yes h) = get_or-replicate 256 i 0 0 h
    go (no h) = get_or-eq_default (replicate 256 0) 0 {n = i} (omega (arith, length-replicate {A = ℕ} 256 0))

marks_none : (many : ℕ) → many ≤ 255 → Marks (replicate 256 0) many
marks_none many h = record { long = length-replicate {A = ℕ} 256 0; few = h; beyond = λ i l. none_marked i; order = λ i j l z o. let w = none_marked j in omega arith }

-- what was read, as the value of the bytes
pub in_place : {A : Type 0} (f : Reader A) (bytes : List ℕ) (other : A) {a : A} {n : ℕ} → whole f bytes ≡ got a n → whole f bytes ≡ got (value_or other (whole f bytes)) n
in_place {A} f bytes other {a} {n} e = e ∙ ap (λ (x : A). got x n) (sym (has_value other e))

-- what stays as it was at the start: the two records, which are accepted, the buffer as it was then, and the narrowing
pub record Fixed (schema_bytes condition_bytes old : List ℕ) : Type 0 where
  pub schema_end : ℕ
  pub schema : whole schema_record schema_bytes ≡ got (schema_in schema_bytes) schema_end
  pub condition_end : ℕ
  pub condition : whole condition_record condition_bytes ≡ got (record_in condition_bytes) condition_end
  pub scope : Scope

pub record Started (schema_bytes condition_bytes : List ℕ) (rules : ℕ) (old : List ℕ) (first : Held) : Type 0 where
  pub fixed : Fixed schema_bytes condition_bytes old
  pub list : List Target
  pub known : Known old fixed.scope list [] first
  pub same : first.state.rules ≡ rules
  pub done : done_in first.state.marks list ≡ []

module _ (schema_bytes condition_bytes : List ℕ) (rules : ℕ) (old : List ℕ) (first : Held) (b : StartOf schema_bytes condition_bytes rules old first) where
  outcome : Reading → steps.SteppedOutcome
  outcome g = by_reading (unchanged (begins rules) []) (λ s c ts. unchanged (begins rules) [] 0 0) g

  started_by : (g : Reading) → reading schema_bytes condition_bytes (record_of first) ≡ g → ((outcome g).check.outcome.answer.record_number ≡ 0) × (first.state ≡ (outcome g).state)
  unfolding steps.start stepped_of check_outcome_of outcome
  started_by g e =
      let o : stepped_of b.result [] ≡ outcome g = b.contract ∙ ap outcome e in
      (sym (ap (λ (x : steps.SteppedOutcome). x.check.outcome.answer.record_number) o) ∙ b.accepted, b.state ∙ ap (λ (x : steps.SteppedOutcome). x.state) o)

  known_first : (ts : Targets) (end : ℕ) → whole target_record (record_of first) ≡ got ts end → first.state ≡ begins rules → Known old ts.scope ts.list [] first
  unfolding begins begun_from gather fold
  known_first ts end e is =
      record {
        end = end;
        read = e;
        marks = rw is (marks_none (length ts.list) (few_targets (record_of first) e b.bytes));
        log =
            record {
              bytes = b.reports;
              used = ap (λ (st : Steps). st.used) is;
              stopped = ap (λ (st : Steps). st.stopped) is;
              visits = ap (λ (st : Steps). st.visits) is;
            };
        few = omega arith;
      }

  none_done : first.state ≡ begins rules → (list : List Target) → done_in first.state.marks list ≡ []
  unfolding begins
  none_done is list = done_none first.state.marks 0 list (λ k l h o. let w = ap (λ (st : Steps). at st.marks k) is ∙ none_marked k in omega arith)

  pub started : Started schema_bytes condition_bytes rules old first
  unfolding reading outcome begins record_in
  started = go (whole schema_record schema_bytes) refl (whole condition_record condition_bytes) refl (whole target_record (record_of first)) refl
    where
      go : (x : Got Schema) → whole schema_record schema_bytes ≡ x → (y : Got Condition) → whole condition_record condition_bytes ≡ y → (z : Got Targets) → whole target_record (record_of first) ≡ z → Started schema_bytes condition_bytes rules old first
      go (bad r) e y f z g = absurd (let w = (started_by (refused (number_of r) 1) (rw e)).0 in omega arith)
      go (got s m) e (bad r) f z g = absurd (let w = (started_by (refused (number_of r) 2) (rw (e, f))).0 in omega arith)
      go (got s m) e (got c n) f (bad r) g = absurd (let w = (started_by (refused (number_of r) 3) (rw (e, f, g))).0 in omega arith)
      go (got s m) e (got c n) f (got ts end) g =
          let is : first.state ≡ begins rules = (started_by (read s c ts) (rw (e, f, g))).1 in
          record {
            fixed =
                record {
                  schema_end = m;
                  schema = in_place schema_record schema_bytes _ e;
                  condition_end = n;
                  condition = in_place condition_record condition_bytes _ f;
                  scope = ts.scope;
                };
            list = ts.list;
            known = known_first ts end g is;
            same = ap (λ (st : Steps). st.rules) is;
            done = none_done is ts.list;
          }

-- ---- after any calls

-- the targets that record 3 holds
pub targets_are : (old : List ℕ) (scope : Scope) (list : List Target) (vs : List (List Breach)) (h : Held) → Known old scope list vs h → targets_of h ≡ under scope list
targets_are old scope list vs h so = has_value _ so.read

module _ (schema_bytes condition_bytes : List ℕ) where
  -- nothing moves where nothing changes, nor in two calls where it moves in neither
  stays_still : (h : Held) → Stays schema_bytes condition_bytes h h
  stays_still h = record { others = []; list = sym (append-nil _); marks = λ i e. refl }

  stays_then : {a b d : Held} → Stays schema_bytes condition_bytes a b → Stays schema_bytes condition_bytes b d → Stays schema_bytes condition_bytes a d
  unfolding is_pending
  stays_then {a} {b} {d} x y =
      record {
        others = x.others ++ y.others;
        list = y.list ∙ ap (λ (l : List Target). l ++ y.others) x.list ∙ append_assoc (targets_of a).list x.others y.others;
        marks = λ i e. y.marks i (ap (λ (n : ℕ). eqb n 0) (x.marks i e) ∙ e) ∙ x.marks i e;
      }

  stays_by : {before after : Held} (scope : Scope) (list others : List Target) → targets_of before ≡ under scope list → targets_of after ≡ under scope (list ++ others)
      → ((i : ℕ) → (at before.state.marks i ≡ 0 → ⊥) → at after.state.marks i ≡ at before.state.marks i) → Stays schema_bytes condition_bytes before after
  unfolding is_pending
  stays_by {before} scope list others e f m =
      record {
        others = others;
        list = ap (λ (ts : Targets). ts.list) f ∙ ap (λ (ts : Targets). ts.list ++ others) (sym e);
        marks = λ i h. m i (eqb-false (at before.state.marks i) 0 h);
      }

  -- by which rules it goes on: some targets were done before, with these visits, and since then the rules are these
  pub record Past : Type 0 where
    pub rules : ℕ
    pub front : List Target
    pub earlier : List (List Breach)

  module _ (old : List ℕ) (g : Fixed schema_bytes condition_bytes old) where
    abbrev s : Schema
    s = schema_in schema_bytes

    abbrev c : Condition
    c = record_in condition_bytes

    -- the visits under a target by such rules
    abbrev pub visits_by : ℕ → Target → List (List Breach)
    visits_by rules = visits_under (choices_of rules) s c g.scope

    -- what is known: the visits are the earlier ones and those of the targets done since
    pub record Since (p : Past) (h : Held) : Type 0 where
      pub list : List Target
      pub behind : List Target
      pub done : done_in h.state.marks list ≡ p.front ++ behind
      pub known : Known old g.scope list (p.earlier ++ gather (visits_by p.rules) behind) h
      pub same : h.state.rules ≡ p.rules

    module _ (p : Past) where
      -- all that was done counts as done before, with other rules from here on
      abbrev pub past : (h : Held) → Since p h → ℕ → Past
      past h so rules = record { rules = rules; front = p.front ++ so.behind; earlier = p.earlier ++ gather (visits_by p.rules) so.behind }

      pub from_here : (h : Held) (so : Since p h) → Since (past h so p.rules) h
      unfolding gather
      from_here h so =
          record {
            list = so.list;
            behind = [];
            done = so.done ∙ sym (append-nil (p.front ++ so.behind));
            known = rw append-nil so.known;
            same = so.same;
          }

      -- what a call, or calls, leave of it
      pub record Onward (before after : Held) : Type 0 where
        pub since : Since p after
        pub stays : Stays schema_bytes condition_bytes before after
        pub stopped : (before.state.stopped ≡ 0 → ⊥) → after.state.stopped ≡ before.state.stopped

      onward_same : (before after : Held) → Since p before → after ≡ before → Onward before after
      onward_same before after so e = subst (Onward before) (sym e) (record { since = so; stays = stays_still before; stopped = λ h. refl })

      more_visits : (t : Target) (behind : List Target) → (p.earlier ++ gather (visits_by p.rules) behind) ++ visits_by p.rules t ≡ p.earlier ++ gather (visits_by p.rules) (behind ++ (t ∷ []))
      unfolding gather
      more_visits t behind = rw (gather_append (visits_by p.rules) behind (t ∷ []), append-nil (visits_by p.rules t), append_assoc)

      module _ (before after : Held) (so : Since p before) where
        abbrev vs : List (List Breach)
        vs = p.earlier ++ gather (visits_by p.rules) so.behind

        before-is : targets_of before ≡ under g.scope so.list
        before-is = targets_are old g.scope so.list vs before so.known

        onward_did : (t : Target) → Did schema_bytes condition_bytes s c g.schema g.condition old g.scope so.list vs before so.known after t → before.state.stopped ≡ 0 → Onward before after
        onward_did t d z =
            let known : Known old g.scope so.list (p.earlier ++ gather (visits_by p.rules) (so.behind ++ (t ∷ []))) after =
            subst (λ (v : List (List Breach)). Known old g.scope so.list v after) (ap (λ (r : ℕ). vs ++ visits_by r t) so.same ∙ more_visits t so.behind) d.known in
            record {
              since =
                  record {
                    list = so.list;
                    behind = so.behind ++ (t ∷ []);
                    done = d.done ∙ ap (λ (l : List Target). l ++ (t ∷ [])) so.done ∙ append_assoc p.front so.behind (t ∷ []);
                    known = known;
                    same = d.rules ∙ so.same;
                  };
              stays = stays_by g.scope so.list [] before-is (targets_are old g.scope so.list _ after known ∙ ap (under g.scope) (sym (append-nil so.list))) d.marks;
              stopped = λ h. absurd (h z);
            }

        onward_step : StepOf schema_bytes condition_bytes before after → Onward before after
        onward_step r = go (step_view schema_bytes condition_bytes s c g.schema g.condition old g.scope so.list vs before so.known after r).went
          where
            go : Went schema_bytes condition_bytes s c g.schema g.condition old g.scope so.list vs before so.known after → Onward before after
            go (idle e) = onward_same before after so e
            go (did t z d) = onward_did t d z

        onward_more : (new : List ℕ) → More schema_bytes condition_bytes before after old g.scope so.list vs so.known new → Onward before after
        onward_more new a =
            record {
              since =
                  record {
                    list = so.list ++ (a.target ∷ []);
                    behind = so.behind;
                    done = a.done ∙ so.done;
                    known = a.known;
                    same = ap (λ (st : Steps). st.rules) a.state ∙ so.same;
                  };
              stays =
                  stays_by g.scope so.list (a.target ∷ []) before-is (targets_are old g.scope (so.list ++ (a.target ∷ [])) vs after a.known)
                  (λ i h. ap (λ (st : Steps). at st.marks i) a.state);
              stopped = λ h. ap (λ (st : Steps). st.stopped) a.state;
            }

        onward_append : AppendOf schema_bytes condition_bytes before after → Onward before after
        onward_append r = go (eqb r.result.number 0) refl
          where
            go : (b : Bool) → eqb r.result.number 0 ≡ b → Onward before after
            go true e = onward_more r.new (append_more schema_bytes condition_bytes before after old g.scope so.list vs so.known r (eqb-true _ _ e))
            go false e = onward_same before after so ((refused_same schema_bytes condition_bytes before after).appends r (eqb-false _ _ e))

        onward_fewer : Fewer schema_bytes condition_bytes before after old g.scope so.list vs so.known → Onward before after
        onward_fewer w =
            record {
              since = record { list = so.list; behind = so.behind; done = w.done ∙ so.done; known = w.known; same = w.rules ∙ so.same };
              stays = stays_by g.scope so.list [] before-is (targets_are old g.scope so.list vs after w.known ∙ ap (under g.scope) (sym (append-nil so.list))) w.marks;
              stopped = λ h. w.stopped;
            }

        onward_withdraw : WithdrawOf schema_bytes condition_bytes before after → Onward before after
        onward_withdraw r = go (eqb r.result.answer.number 0) refl
          where
            go : (b : Bool) → eqb r.result.answer.number 0 ≡ b → Onward before after
            go true e = onward_fewer (withdraw_fewer schema_bytes condition_bytes before after old g.scope so.list vs so.known r (eqb-true _ _ e))
            go false e = onward_same before after so ((refused_same schema_bytes condition_bytes before after).withdraws r (eqb-false _ _ e))

        pub onward_call : Call schema_bytes condition_bytes before after → Onward before after
        onward_call (Call.steps r) = onward_step r
        onward_call (Call.appends r) = onward_append r
        onward_call (Call.withdraws r) = onward_withdraw r

      pub onward : (before after : Held) → Since p before → Calls schema_bytes condition_bytes before after → Onward before after
      onward before after so none = onward_same before before so refl
      onward before after so (more {before = mid} calls call) =
          let x = onward before mid so calls in
          let y = onward_call mid after x.since call in
          record {
            since = y.since;
            stays = stays_then x.stays y.stays;
            stopped = λ h. y.stopped (λ z. h (sym (x.stopped h) ∙ z)) ∙ x.stopped h;
          }
