-- The run: each reached node under a target, each target, and the records that are read before them. Assumes nothing.
use mathlib.Core.Path.{◌≡◌, refl, sym, ap, ap₂, ◌∙◌}
use mathlib.Core.Bool.{Bool, true, false, cond}
use mathlib.Core.List.{List, [], ◌∷◌, ◌++◌, map, append-nil}
use mathlib.Core.Option.{Option}
use Prim.Native.Nat.{ℕ, ◌+◌, ◌-◌, ◌*◌, ◌≤◌, ◌<◌}
use native.Mathlib.Nat.{add_assoc}
use native.Mathlib.Omega.{arith}
use borrow.Author.Rules.{rules}
use lib.ListN.{length, length-map, drop, drop_of_length-le}
use Rattle.names.specs.Lists.{maybe, gather}
use Rattle.names.specs.Fields.{whole, number_of}
use Rattle.names.specs.Read.{ending, Listed, Read, Found}
use Rattle.names.specs.Laws.Readers.{accept, passes, refused_by}
use Rattle.names.specs.Laws.Rows.{listed_first, listed_over}
use Rattle.types.specs.Types as types
use Rattle.types.specs.Meaning.{profile_in}
use Rattle.types.specs.declared.Profile.{Profile}
use Rattle.schema.specs.Schema.{Schema, Action, schema_record}
use Rattle.schema.specs.Find.{find_action}
use Rattle.schema.specs.Places.{is_schema, schema_in, is_action, action_in, found_in, found_stands, FindsAction, ActionsOf}
use Rattle.targets.specs.Targets.{Scope, Target, Targets, target, target_record}
use Rattle.targets.specs.Places.{are_targets, targets_in, is_target, target_in}
use Rattle.condition.specs.Condition.{Condition, condition_record}
use Rattle.condition.specs.Places.{is_record, record_in, condition_in}
use Rattle.condition.specs.Laws.Records.{record_small}
use Rattle.condition.specs.Laws.Sizes.{record_nodes}
use Rattle.walk.specs.Index.{Index, Reached}
use Rattle.walk.specs.Scopes.{Scoped, under, Binding, binding_of, nodes_by}
use Rattle.walk.specs.Enclosing.{around_at, binding_in}
use Rattle.walk.specs.Laws.Nodes.{length_by, reached_index, reached_by}
use Rattle.walk.specs.declared.Binding as walk
use Rattle.walk.specs.declared.Binding.TheVariants as Binding
use Rattle.resolution.specs.Resolution.{admits_any_env}
use Rattle.reports.specs.Reports.{Breach, Outcome, once, reported}
use Rattle.reports.specs.Kept.{fold}
use Rattle.reports.specs.declared.State.{State}
use Rattle.reports.specs.declared.Answer.{Answer}
use Rattle.reports.specs.Sink as sinks
use Rattle.reports.specs.Sink.{Sink, sink, push_all}
use Rattle.reports.specs.Slots.{Lent, Empty, Pushed}
use Rattle.reports.specs.Laws.Sinks.{recorded_none}
use Rattle.reports.specs.Laws.Slots.{zeros_empty, lent_start}
use Rattle.reports.specs.Answers.{Answers, Refuses, pushed}
use Rattle.terms.specs.declared.Facts.{Facts}
use Rattle.terms.specs.Laws.Known.{mere_ready}
use Rattle.terms.specs.Facts.{facts_in, scope_in, at_node, Known, FactsOf}
use Rattle.rules.specs.Rules.{node_breaches}
use Rattle.typecheck.specs.Check.{profile_of, Choices, choices_of, breaches_at, is_checked, visits_under_by, visits_under, CheckOutcome, checked_by, checked, check_with, check}
use Rattle.typecheck.specs.Answers.{check_outcome_of, WithVisits, Spared}
use Rattle.typecheck.specs.Known.{KnownUnder}
use Rattle.typecheck.specs.Run.{of_record, ReadAs, reading, choices_in, chosen_in, found_by, begun_from, Visited, ReadRecords, Holds, visits_in, CheckedAt, all_visits_of, target_visits, checked_of}
use Rattle.typecheck.specs.Laws.Indexed.{mere_index}
use Rattle.typecheck.specs.Laws.Visits.{found_all, full_stays, full_begins, found_append, begun_append, begun_few, begun_run}
use Rattle.typecheck.specs.Laws.Reading.{check_reading, accepted_reading}
use Rattle.typecheck.specs.declared.CheckAnswer.{CheckAnswer}
use Rattle.typecheck.specs.declared.Progress.{Progress}
use Rattle.std.specs.Prelude.{Result, Ok, Err, Some, None, IsErrAnd}
use Rattle.typecheck.specs.declared.Records.{Records}
use Rattle.typecheck.specs.declared.prepared.Run.{Run}
use Rattle.typecheck.specs.declared.prepared.Checked.{Checked}
use Rattle.std.specs.Prelude as code
use Rattle.std.proofs.Math.Logic.{∥∥₁_map}
use Rattle.typecheck.specs.declared.RefusedRecord.{RefusedRecord}

-- ---- visits

-- a loop that makes visits: those that are left, made, make the whole, and those begun since make up the count
pub record Visiting (all : Sink) (total : ℕ) (now : Sink) (table : List ℕ) (count : ℕ) (left : List (List Breach)) : Type 0 where
  pub still : Lent now table
  pub same : push_all now (found_by left) ≡ all
  pub counted : count + begun_from now left ≡ total

visiting_begins : (a : Sink) (table : List ℕ) (visits : List (List Breach)) → Lent a table → Visiting (push_all a (found_by visits)) (begun_from a visits) a table 0 visits
visiting_begins a table visits p = record { still = p; same = refl; counted = omega arith }

module _ {all : Sink} {total : ℕ} {now table : List ℕ} {st : State} {count : ℕ} {next table' : List ℕ} where
  visiting_next : (xs ys : List (List Breach)) → Visiting all total (sink now st) table count (xs ++ ys) → {r : Progress} → Visited now st xs next r table' → Visiting all total (sink next r.state) table' (count + r.visits) ys
  visiting_next xs ys l {r} v = record {
    still = v.pushed.still;
    same = ap (λ (s : Sink). push_all s (found_by ys)) v.pushed.is ∙ sym (found_append (sink now st) xs ys) ∙ l.same;
    counted = add_assoc count r.visits _ ∙ ap₂ (λ (a b : ℕ). count + (a + b)) v.counted (ap (λ (s : Sink). begun_from s ys) v.pushed.is) ∙ ap (λ (n : ℕ). count + n) (sym (begun_append (sink now st) xs ys)) ∙ l.counted;
  }

  visiting_one : (v : List Breach) (ys : List (List Breach)) → Visiting all total (sink now st) table count (v ∷ ys) → st.full ≡ false → {r : State} → Pushed now st v next r table' → Visiting all total (sink next r) table' (count + 1) ys
  unfolding begun_from gather
  visiting_one v ys l h {r} p = visiting_next (v ∷ []) ys l {r = record { state = r; visits = 1 }} (record { pushed = rw append-nil p; counted = rw h })

-- it is over where none is left, or where the buffer is full
module _ {old : List ℕ} {st₀ : State} {visits : List (List Breach)} {now table : List ℕ} {st : State} {count : ℕ} where
  visiting_over : Visiting (push_all (sink old st₀) (found_by visits)) (begun_from (sink old st₀) visits) (sink now st) table count [] → Visited old st₀ visits now (record { state = st; visits = count }) table
  unfolding begun_from gather fold
  visiting_over l = record { pushed = record { still = l.still; is = l.same }; counted = omega (arith, l.counted) }

  visiting_full : (left : List (List Breach)) → Visiting (push_all (sink old st₀) (found_by visits)) (begun_from (sink old st₀) visits) (sink now st) table count left → st.full ≡ true → Visited old st₀ visits now (record { state = st; visits = count }) table
  visiting_full left l h = record {
    pushed = record { still = l.still; is = sym (full_stays (sink now st) h (found_by left)) ∙ l.same };
    counted = omega (arith, full_begins (sink now st) h left, l.counted);
  }

-- ---- the reached nodes

-- the invariant of the loop over the nodes, each of which is one visit: the nodes that are left, visited, make the whole
abbrev pub NodesLeft : (Scoped → List Breach) → Binding → List ℕ → Sink → ℕ → Sink → List ℕ → ℕ → Type 0
NodesLeft f b c all total now table i = Visiting all total now table i (map f (drop i (nodes_by b (record_in c))))

module _ (f : Scoped → List Breach) (b : Binding) (c : List ℕ) where
  pub nodes_begin : (a : Sink) (table : List ℕ) → Lent a table → NodesLeft f b c (push_all a (found_by (map f (nodes_by b (record_in c))))) (begun_from a (map f (nodes_by b (record_in c)))) a table 0
  nodes_begin a table p = visiting_begins a table (map f (nodes_by b (record_in c))) p

  module _ (i : ℕ) where
    turn : {all : Sink} {total : ℕ} {now next table table' : List ℕ} {st r : State} → NodesLeft f b c all total (sink now st) table i → st.full ≡ false → (at : ℕ) → Reached c i at → Pushed now st (f (under (around_at b c i) (condition_in c at))) next r table' → NodesLeft f b c all total (sink next r) table' (i + 1)
    turn l o at h e = visiting_one (f (under (around_at b c i) (condition_in c at))) (map f (drop (i + 1) (nodes_by b (record_in c)))) (rw (reached_by c i at h b) at l) o e

    module _ {old now table : List ℕ} {st₀ st : State} {visits : List (List Breach)} (l : NodesLeft f b c (push_all (sink old st₀) (found_by visits)) (begun_from (sink old st₀) visits) (sink now st) table i) where
      pub nodes_over : (places : List ℕ) → Index c places → i ≤ length places → length places ≤ i → Visited old st₀ visits now (record { state = st; visits = length places }) table
      nodes_over places x k h =
          let over : drop i (nodes_by b (record_in c)) ≡ [] = drop_of_length-le (nodes_by b (record_in c)) {i = i} (omega (arith, x.size, length_by (record_in c) b)) in
          let all : length places ≡ i = omega arith in
          rw all (visiting_over (rw over at l))

      pub nodes_full : st.full ≡ true → Visited old st₀ visits now (record { state = st; visits = i }) table
      nodes_full h = visiting_full (map f (drop i (nodes_by b (record_in c)))) l h

-- a node under the facts of a target
module _ (s c n : List ℕ) (f : Facts) (i at : ℕ) (h : Reached c i at) (here : Facts) (is : here ≡ at_node f i) where
  pub node_known : (env : List ℕ) → ∥ KnownUnder s c env f ∥₁ → ∥ Known s c env here ∥₁
  node_known env k = ∥∥₁_map k (λ u. rw is (u.at i (reached_index c i at h)))

  pub nodes_turn : {all : Sink} {total : ℕ} {now next table table' : List ℕ} {st r : State}
      → NodesLeft (breaches_at types.dated (profile_in f.common.profile) (schema_in s) (scope_in n f) (found_in (action_in s) f.action)) (binding_in f.common.binding) c all total (sink now st) table i → st.full ≡ false
      → Pushed now st (node_breaches (facts_in s c n here) (condition_in c at)) next r table'
      → NodesLeft (breaches_at types.dated (profile_in f.common.profile) (schema_in s) (scope_in n f) (found_in (action_in s) f.action)) (binding_in f.common.binding) c all total (sink next r) table' (i + 1)
  nodes_turn l o e = turn (breaches_at types.dated (profile_in f.common.profile) (schema_in s) (scope_in n f) (found_in (action_in s) f.action)) (binding_in f.common.binding) c i l o at h (rw is at e)

-- what the loop over the nodes keeps, under a target: the first i of them are visited
abbrev pub NodesMade : Checked → Sink → Sink → List ℕ → ℕ → Type 0
NodesMade x first now table i =
    NodesLeft (breaches_at types.dated (profile_in x.facts.common.profile) (schema_in x.run.records.schema.bytes.now) (scope_in x.run.records.targets.bytes.now x.facts) (found_in (action_in x.run.records.schema.bytes.now) x.facts.action)) (binding_in x.facts.common.binding) x.run.records.condition.bytes.now
    (push_all first (found_by (visits_in x))) (begun_from first (visits_in x)) now table i

-- the places are those of the run's condition
pub index_known : (run : Run) → Index run.records.condition.bytes.now run.places.now
index_known run = mere_index run.records.condition.bytes.now run.places.now run.index

pub ruleset each_node = (rules, index_known, nodes_begin, node_known, nodes_turn, nodes_over, nodes_full)

-- where the target is checked, and where it is skipped
module _ (run : Run) (at : ℕ) (x : code.Option Checked) (is : CheckedAt run at x) where
  pub target_passed : x ≡ None → (old : List ℕ) (st : State) (table : List ℕ) → Lent (sink old st) table → Visited old st (target_visits (chosen_in run.common) run.records at) old (record { state = st; visits = 0 }) table
  unfolding gather begun_from
  target_passed e old st table p = let none : [] ≡ target_visits (chosen_in run.common) run.records at = rw e at is in rw (← none) (record { pushed = recorded_none old st p; counted = refl })

  pub target_told : (t : Checked) → x ≡ Some t → {old now table : List ℕ} {st₀ : State} {r : Progress} → Visited old st₀ (visits_in t) now r table → Visited old st₀ (target_visits (chosen_in run.common) run.records at) now r table
  target_told t e p = let all : visits_in t ≡ target_visits (chosen_in run.common) run.records at = rw e at is in rw (← all) p

pub ruleset where_checked = (rules, target_passed, target_told)

-- ---- under a target

module _ (s n : List ℕ) (found : Found) (p : ℕ) (e : found ≡ Some p) where
  pub action_stands : found_stands (is_action s) found ≡ true → is_action s p ≡ true
  action_stands h = rw e at h

  pub admitted : {b : Bool} → b ≡ admits_any_env (schema_in s) (targets_in n).scope (action_in s p) → b ≡ maybe true (admits_any_env (schema_in s) (targets_in n).scope) (found_in (action_in s) found)
  admitted h = rw e h

pub ruleset whether_checked = (rules, action_stands, admitted)

module _ (k : Choices) (s : Schema) (c : Condition) (scope : Scope) (t : Target) (o : Option Action) (e : o ≡ find_action s t.namespace t.id) where
  under_checked : maybe true (admits_any_env s scope) o ≡ true → map (breaches_at types.dated k.profile s scope o) (nodes_by k.binding c) ≡ visits_under k s c scope t
  unfolding visits_under_by is_checked
  under_checked h = rw (← e, h)

  under_skips : maybe true (admits_any_env s scope) o ≡ false → [] ≡ visits_under k s c scope t
  unfolding visits_under_by is_checked
  under_skips h = rw (← e, h)

module _ (run : Run) (at : ℕ) (w : List ℕ) (is_w : w ≡ (target_in run.records.targets.bytes.now at).namespace) (v : List ℕ) (is_v : v ≡ (target_in run.records.targets.bytes.now at).id)
    (x : Found) (finds : FindsAction run.records.schema.bytes.now (find_action (schema_in run.records.schema.bytes.now) w v) x)
    (b : Bool) (is_b : b ≡ maybe true (admits_any_env (schema_in run.records.schema.bytes.now) (targets_in run.records.targets.bytes.now).scope) (found_in (action_in run.records.schema.bytes.now) x)) where
  abbrev s : List ℕ
  s = run.records.schema.bytes.now

  abbrev c : List ℕ
  c = run.records.condition.bytes.now

  abbrev n : List ℕ
  n = run.records.targets.bytes.now

  looked_up : found_in (action_in s) x ≡ find_action (schema_in s) (target_in n at).namespace (target_in n at).id
  looked_up = rw (← is_w, ← is_v) finds.value

  pub facts_known : (f : Facts) → FactsOf n x run.common f → ∥ KnownUnder s c run.env.now f ∥₁
  facts_known f k = ∥∥₁_map run.ready (λ r. record { at = λ i l. record { ready = rw k.shared r; action = rw k.action finds.stands; node = l } })

  pub target_checked : b ≡ true → (f : Facts) → FactsOf n x run.common f
      → map (breaches_at types.dated (profile_in f.common.profile) (schema_in s) (scope_in n f) (found_in (action_in s) f.action)) (nodes_by (binding_in f.common.binding) (record_in c)) ≡ target_visits (chosen_in run.common) run.records at
  target_checked h f k = rw (k.shared, k.action, k.scope) (under_checked (chosen_in run.common) (schema_in s) (record_in c) (targets_in n).scope (target_in n at) (found_in (action_in s) x) looked_up (sym is_b ∙ h))

  pub target_skipped : b ≡ false → CheckedAt run at None
  target_skipped h = under_skips (chosen_in run.common) (schema_in s) (record_in c) (targets_in n).scope (target_in n at) (found_in (action_in s) x) looked_up (sym is_b ∙ h)

-- the row of the actions is that of the run's schema
pub actions_known : (run : Run) → ActionsOf run.records.schema.bytes.now run.common.actions
actions_known run = (mere_ready run.records.schema.bytes.now run.records.condition.bytes.now run.env.now run.common run.ready).actions

pub ruleset one_target = (rules, actions_known, facts_known, target_checked, target_skipped)

-- ---- each target

-- the largest number of visits: those of 255 targets, each with the 3,641 that a condition record can have
pub record TargetsLeft (f : Target → List (List Breach)) (n : List ℕ) (all : Sink) (total : ℕ) (now : Sink) (table : List ℕ) (count rest at : ℕ) : Type 0 where
  pub left : List Target
  pub there : Listed target n left rest at
  pub visiting : Visiting all total now table count (gather f left)
  pub few : count + 3641 * rest ≤ 928455

module _ (f : Target → List (List Breach)) (n : List ℕ) where
  pub targets_begin : (a : Sink) (table : List ℕ) (list : List Target) (rest at : ℕ) → rest ≡ length list → rest < 256 → Listed target n list (length list) at → Lent a table → TargetsLeft f n (push_all a (found_by (gather f list))) (begun_from a (gather f list)) a table 0 rest at
  targets_begin a table list rest at e m l p = record { left = list; there = rw e l; visiting = visiting_begins a table (gather f list) p; few = omega arith }

  module _ (count end i at : ℕ) where
    module _ {old now table : List ℕ} {st₀ st : State} {visits : List (List Breach)} (l : TargetsLeft f n (push_all (sink old st₀) (found_by visits)) (begun_from (sink old st₀) visits) (sink now st) table count (end - i) at) where
      pub targets_over : end ≤ i → Visited old st₀ visits now (record { state = st; visits = count }) table
      unfolding gather
      targets_over h = visiting_over (rw (listed_over target n l.left (end - i) at (omega arith) l.there) at l.visiting)

      pub targets_full : st.full ≡ true → Visited old st₀ visits now (record { state = st; visits = count }) table
      targets_full h = visiting_full (gather f l.left) l.visiting h

    module _ {all : Sink} {total : ℕ} {now table : List ℕ} {st : State} (l : TargetsLeft f n all total (sink now st) table count (end - i) at) (h : i < end) where
      pub targets_stand : is_target n at ≡ true
      targets_stand = (listed_first target n (record { namespace = []; id = [] }) l.left (end - i) at (omega arith) l.there).stands

      targets_turn : {next table' : List ℕ} {r : Progress} → Visited now st (f (target_in n at)) next r table' → r.visits ≤ 3641 → (m : ℕ) → Ok m ≡ ending (target n at) → TargetsLeft f n all total (sink next r.state) table' (count + r.visits) (end - (i + 1)) m
      unfolding gather
      targets_turn e few m g =
          let d = listed_first target n (record { namespace = []; id = [] }) l.left (end - i) at (omega arith) l.there in
          let left : end - (i + 1) ≡ (end - i) - 1 = omega arith in
          record {
            left = d.others;
            there = rw left (d.on m g);
            visiting = visiting_next (f (target_in n at)) (gather f d.others) (rw d.value at l.visiting) e;
            few = omega (arith, l.few);
          }

-- under one target no more visits are begun than the condition has reached nodes
under_few : (k : Choices) (s : Schema) (c : List ℕ) (scope : Scope) (t : Target) → is_record c ≡ true → length (visits_under k s (record_in c) scope t) ≤ 3641
unfolding visits_under_by
under_few k s c scope t acc = go (is_checked s scope t) (breaches_at types.dated k.profile s scope (find_action s t.namespace t.id))
  where
    go : (b : Bool) (f : Scoped → List Breach) → length (cond b (map f (nodes_by k.binding (record_in c))) []) ≤ 3641
    go true f = omega (arith, length-map (nodes_by k.binding (record_in c)) f, length_by (record_in c) k.binding, record_nodes c acc, record_small c acc)
    go false f = omega arith

module _ (k : Choices) (x : Records) (at : ℕ) {now next table' : List ℕ} {st : State} {r : Progress} (e : Visited now st (target_visits k x at) next r table') where
  visits_few : r.visits ≤ 3641
  visits_few =
      omega (arith, e.counted, begun_few (sink now st) (target_visits k x at), under_few k (schema_in x.schema.bytes.now) x.condition.bytes.now (targets_in x.targets.bytes.now).scope (target_in x.targets.bytes.now at) x.condition.accepted)

  -- the visits of this target are added to those before it: the sum is a number of the machine, and the rest goes on
  module _ (count end i : ℕ) {all : Sink} {total : ℕ} {table : List ℕ}
      (l : TargetsLeft (visits_under k (schema_in x.schema.bytes.now) (record_in x.condition.bytes.now) (targets_in x.targets.bytes.now).scope) x.targets.bytes.now all total (sink now st) table count (end - i) at) (p : i < end) where
    pub target_sum : count + r.visits < 18446744073709551616
    target_sum = omega (arith, l.few, visits_few)

    pub target_turn : (m : ℕ) → Ok m ≡ ending (target x.targets.bytes.now at)
        → TargetsLeft (visits_under k (schema_in x.schema.bytes.now) (record_in x.condition.bytes.now) (targets_in x.targets.bytes.now).scope) x.targets.bytes.now all total (sink next r.state) table' (count + r.visits) (end - (i + 1)) m
    target_turn m g = targets_turn (visits_under k (schema_in x.schema.bytes.now) (record_in x.condition.bytes.now) (targets_in x.targets.bytes.now).scope) x.targets.bytes.now count end i at l p e visits_few m g

-- what the loop over the targets keeps: so many of them are left
abbrev pub TargetsMade : Run → Sink → Sink → List ℕ → ℕ → ℕ → ℕ → Type 0
TargetsMade run first now table count rest at =
    TargetsLeft (visits_under (chosen_in run.common) (schema_in run.records.schema.bytes.now) (record_in run.records.condition.bytes.now) (targets_in run.records.targets.bytes.now).scope) run.records.targets.bytes.now
    (push_all first (found_by (all_visits_of (chosen_in run.common) run.records))) (begun_from first (all_visits_of (chosen_in run.common) run.records)) now table count rest at

pub ruleset each_target = (rules, targets_begin, targets_over, targets_full, targets_stand, target_sum, target_turn)

-- ---- the records

pub all_checked : (k : Choices) (s : Schema) (c : Condition) (ts : Targets) (b : List ℕ) {t table : List ℕ} {end : Progress} → Visited b sinks.none (gather (visits_under k s c ts.scope) ts.list) t end table
    → {a : Answer} → Answers end.state a → {r : CheckAnswer} → WithVisits a end.visits r → check_outcome_of r t ≡ checked k s c ts b
unfolding checked_by fold
all_checked k s c ts b {t} e a w =
    let visits = gather (visits_under k s c ts.scope) ts.list in
    w.is t
    ∙ λ i. record {
      outcome = (pushed b (found_by visits) e.pushed a ∙ ap (λ (bs : List Breach). reported (once [] bs) b) (found_all k s c ts.scope ts.list)) i;
      visits = (e.counted ∙ begun_run b [] visits) i;
    }

-- the state that a run begins with
module _ (st : State) (is : (st.used ≡ 0) × ((st.count ≡ 0) × (st.full ≡ false))) where
  begins_none : st ≡ sinks.none
  begins_none = λ i. record { used = is.0 i; count = is.1.0 i; full = is.1.1 i }

  pub begins_lent : (b table : List ℕ) → Empty table → Lent (sink b st) table
  begins_lent b table e = rw begins_none (lent_start b table e)

  -- a run was made ready for these records, by these choices
  pub prepared_checked : (k : Choices) (x : Records) (run : Run) → run.records ≡ x → chosen_in run.common ≡ k → (b : List ℕ) {t table : List ℕ} {end : Progress} → Visited b st (all_visits_of (chosen_in run.common) run.records) t end table
      → {a : Answer} → Answers end.state a → {r : CheckAnswer} → WithVisits a end.visits r → check_outcome_of r t ≡ checked_of k x b
  prepared_checked k x run e c b v a w =
      all_checked k (schema_in x.schema.bytes.now) (record_in x.condition.bytes.now) (targets_in x.targets.bytes.now) b (rw (begins_none, e, c) at v) a w

pub prepared_target : (rules : ℕ) (p : Profile) → profile_in p ≡ profile_of rules → (b : walk.Binding) → binding_in b ≡ binding_of rules → (x : Records) (run : Run) → run.records ≡ x → chosen_in run.common ≡ choices_in p b → (at : ℕ)
    → {old now table : List ℕ} {st : State} {r : Progress} → Visited old st (target_visits (chosen_in run.common) run.records at) now r table → Visited old st (target_visits (choices_of rules) x at) now r table
prepared_target rules p h b l x run e c at v = rw (← h, ← l) (rw (e, c) at v)

pub prepared_stands : (x : Records) (run : Run) → run.records ≡ x → (at : ℕ) → is_target x.targets.bytes.now at ≡ true → is_target run.records.targets.bytes.now at ≡ true
prepared_stands x run e at h = rw e h

pub ruleset prepared = (rules, begins_lent, prepared_checked, prepared_target, prepared_stands)

-- where a record is refused, its reader refuses it; and where it is read, so does the reader
refused_read : (x : Read) (which : ℕ) {y : Result ℕ RefusedRecord} → y ≡ of_record x which → (f : RefusedRecord) → y ≡ Err f → x ≡ Err f.refusal
refused_read (Ok n) which {y} is f e = let h : ◌≡◌ {A = Result ℕ RefusedRecord} (Ok n) (Err f) = sym is ∙ e in cc
refused_read (Err r) which {y} is f e = let h : ◌≡◌ {A = Result ℕ RefusedRecord} (Err (record { refusal = r; «record» = which })) (Err f) = sym is ∙ e in cc

refused_which : (x : Read) (which : ℕ) {y : Result ℕ RefusedRecord} → y ≡ of_record x which → (f : RefusedRecord) → y ≡ Err f → f.«record» ≡ which
refused_which (Ok n) which {y} is f e = let h : ◌≡◌ {A = Result ℕ RefusedRecord} (Ok n) (Err f) = sym is ∙ e in cc
refused_which (Err r) which {y} is f e = let h : ◌≡◌ {A = Result ℕ RefusedRecord} (Err (record { refusal = r; «record» = which })) (Err f) = sym is ∙ e in cc

taken_read : (x : Read) (which : ℕ) {y : Result ℕ RefusedRecord} → y ≡ of_record x which → (p : ℕ) → y ≡ Ok p → x ≡ Ok p
taken_read (Ok n) which {y} is p e = let h : ◌≡◌ {A = Result ℕ RefusedRecord} (Ok n) (Ok p) = sym is ∙ e in let q : n ≡ p = cc in rw q
taken_read (Err r) which {y} is p e = let h : ◌≡◌ {A = Result ℕ RefusedRecord} (Err (record { refusal = r; «record» = which })) (Ok p) = sym is ∙ e in cc

-- `?` hands on the refusal of a record
handed : (s c n : List ℕ) (f : RefusedRecord) → ReadAs s c n (Err f) → (r : ReadRecords) → IsErrAnd r (λ e. e ≡ f) → ReadAs s c n r
handed s c n f h (Ok u) e = absurd e
handed s c n f h (Err k) e = rw e h

module _ (s c n : List ℕ) (x : Read) (is_x : x ≡ ending (whole schema_record s)) (x' : Result ℕ RefusedRecord) (of_x : x' ≡ of_record x 1) where
  pub schema_refused : (f : RefusedRecord) → x' ≡ Err f → (r : ReadRecords) → IsErrAnd r (λ e. e ≡ f) → ReadAs s c n r
  unfolding reading
  schema_refused f e =
      let which = refused_which x 1 of_x f e in
      handed s c n f (rw (refused_by (whole schema_record s) x f.refusal is_x (refused_read x 1 of_x f e), which))

  module _ (p : ℕ) (e : x' ≡ Ok p) where
    pub schema_read : is_schema s ≡ true
    schema_read = passes (whole schema_record s) is_x (taken_read x 1 of_x p e)

    module _ (y : Read) (is_y : y ≡ ending (whole condition_record c)) (y' : Result ℕ RefusedRecord) (of_y : y' ≡ of_record y 2) where
      pub condition_refused : (f : RefusedRecord) → y' ≡ Err f → (r : ReadRecords) → IsErrAnd r (λ e. e ≡ f) → ReadAs s c n r
      unfolding reading
      condition_refused f d =
          let g = accept (whole schema_record s) schema_read in
          let which = refused_which y 2 of_y f d in
          handed s c n f (rw (g.read, refused_by (whole condition_record c) y f.refusal is_y (refused_read y 2 of_y f d), which))

      module _ (p' : ℕ) (e' : y' ≡ Ok p') where
        pub condition_read : is_record c ≡ true
        condition_read = passes (whole condition_record c) is_y (taken_read y 2 of_y p' e')

        module _ (z : Read) (is_z : z ≡ ending (whole target_record n)) (z' : Result ℕ RefusedRecord) (of_z : z' ≡ of_record z 3) where
          pub targets_refused : (f : RefusedRecord) → z' ≡ Err f → (r : ReadRecords) → IsErrAnd r (λ e. e ≡ f) → ReadAs s c n r
          unfolding reading
          targets_refused f d =
              let g = accept (whole schema_record s) schema_read in
              let h = accept (whole condition_record c) condition_read in
              let which = refused_which z 3 of_z f d in
              handed s c n f (rw (g.read, h.read, refused_by (whole target_record n) z f.refusal is_z (refused_read z 3 of_z f d), which))

          pub targets_read : (p'' : ℕ) → z' ≡ Ok p'' → are_targets n ≡ true
          targets_read p'' e'' = passes (whole target_record n) is_z (taken_read z 3 of_z p'' e'')

-- records hold the bytes that they were made of, and these are accepted
pub records_hold : (r : Records) → Holds r.schema.bytes.now r.condition.bytes.now r.targets.bytes.now r
records_hold r = record {
  schema = refl;
  condition = refl;
  targets = refl;
  accepted = record { schema = r.schema.accepted; condition = r.condition.accepted; targets = r.targets.accepted };
}

pub ruleset reading_records = (rules, schema_refused, schema_read, condition_refused, condition_read, targets_refused, targets_read, records_hold)

-- what was read is checked, or the refusal is answered: with rules, and with none
module _ (s c n b : List ℕ) (x : ReadRecords) (is : ReadAs s c n x) where
  module _ (rules : ℕ) where
    pub refused_records : (f : RefusedRecord) → x ≡ Err f → {a : Answer} → Refuses (number_of f.refusal) f.«record» a → {r : CheckAnswer} → WithVisits a 0 r → check_outcome_of r b ≡ check_with rules s c n b
    refused_records r e f v = v.is b ∙ ap (λ (o : Outcome). record { outcome = o; visits = 0 }) (f.is b) ∙ sym (check_reading rules s c n b ∙ rw (rw e at is))

    pub records_checked : {r : Records} → x ≡ Ok r → (p : Profile) → profile_in p ≡ profile_of rules → (d : walk.Binding) → binding_in d ≡ binding_of rules → (a : CheckAnswer) (t : List ℕ) → check_outcome_of a t ≡ checked_of (choices_in p d) r b → check_outcome_of a t ≡ check_with rules s c n b
    records_checked {r} e p h d l a t i =
        let held : Holds s c n r = rw e at is in
        i ∙ rw (h, l, held.schema, held.condition, held.targets) (sym (check_reading rules s c n b ∙ rw (accepted_reading s c n held.accepted)))

  pub refused_plain : (f : RefusedRecord) → x ≡ Err f → {a : Answer} → Refuses (number_of f.refusal) f.«record» a → {r : CheckAnswer} → WithVisits a 0 r → check_outcome_of r b ≡ check s c n b
  unfolding check
  refused_plain r e f v = refused_records 0 r e f v

  pub plain_checked : {r : Records} → x ≡ Ok r → (a : CheckAnswer) (t : List ℕ) → check_outcome_of a t ≡ checked_of (choices_in Profile.Plain Binding.Flat) r b → check_outcome_of a t ≡ check s c n b
  unfolding check profile_of binding_of binding_in
  plain_checked e a t i = records_checked 0 e Profile.Plain refl Binding.Flat refl a t i

-- the workspace
pub spared_refused : (a : CheckAnswer) (table : List ℕ) → Spared a table table
spared_refused a table = record { same = λ h. refl }

pub spared_checked : (k : Choices) (s : Schema) (c : Condition) (ts : Targets) (b : List ℕ) (a : CheckAnswer) (t : List ℕ) → check_outcome_of a t ≡ checked k s c ts b → (old new : List ℕ) → Spared a old new
unfolding check_outcome_of checked_by reported
spared_checked k s c ts b a t e old new = record { same = λ h. absurd (h (ap (λ (o : CheckOutcome). o.outcome.answer.record_number) e)) }

pub ruleset answering = (rules, zeros_empty, refused_records, records_checked, refused_plain, plain_checked, spared_refused, spared_checked)
