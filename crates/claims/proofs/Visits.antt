-- What is claimed of the number of visits. Assumes nothing.
use Prim.Native.Nat.{ℕ, suc, ◌+◌, ◌-◌, ◌*◌, ◌≤◌}
use native.Mathlib.Nat.{zero-mul, suc-mul}
use native.Mathlib.Omega.{arith}
use mathlib.Core.Path.{◌≡◌, refl, sym, ap, subst, ◌∙◌}
use mathlib.Core.Bool.{Bool, true, false, cond, not}
use mathlib.Core.List.{List, [], ◌∷◌, ◌++◌, map, append-nil, append_assoc}
use lib.Dec.{eqb, ltb}
use lib.ListN.{length, length-append, length-map}
use borrow.Author.Tests.{ltb-false, le-ltb}
use Rattle.names.specs.Lists.{gather, select}
use Rattle.names.specs.Laws.Lists.{gather_append}
use Rattle.names.specs.Fields.{Got, got, bad, either, whole}
use Rattle.names.specs.Laws.Readers.{is_accepted, has_value}
use Rattle.schema.specs.Schema.{Schema, schema_record}
use Rattle.condition.specs.Condition.{Condition, condition_record}
use Rattle.condition.specs.Walk.{reached}
use Rattle.walk.specs.Scopes.{Scoped, nodes_by}
use Rattle.walk.specs.Laws.Nodes.{length_by}
use Rattle.condition.specs.Places.{record_in}
use Rattle.condition.specs.Laws.Sizes.{record_nodes}
use Rattle.targets.specs.Targets.{Target, Targets, Scope, target_record}
use Rattle.reports.specs.Reports.{Breach, once, encoded, fitting, reported}
use Rattle.reports.specs.Decode.{size}
use Rattle.reports.specs.Kept.{full_fewer}
use Rattle.reports.specs.Laws.Once.{once_append}
use Rattle.typecheck.specs.Check.{Choices, choices_of, breaches_at, is_checked, visits_under_by, visits_under, begun, CheckOutcome, checked_by, checked, check_with_by, unvisited}
use Rattle.typecheck.specs.Answers.{check_outcome_of}
use Rattle.typecheck.specs.Run.{found_by}
use Rattle.typecheck.specs.Laws.Visits.{found_all}
use Rattle.claims.specs.Breaches.{Accepted, Run}
use Rattle.claims.specs.Visits.{number_of, StopsAt, visits_of, Billed, BilledOf}

-- ---- the number that a run answers

-- it is 0 or 11
by_fit : (buffer : List ℕ) (bs : List Breach) → number_of buffer bs ≡ cond (ltb (length buffer) (size (once [] bs))) 11 0
unfolding reported
by_fit buffer bs = ap (λ (b : Bool). cond b 0 11) (full_fewer (length buffer) (once [] bs)) ∙ turned (ltb (length buffer) (size (once [] bs)))
  where
    turned : (b : Bool) → ◌≡◌ {A = ℕ} (cond (not b) 0 11) (cond b 11 0)
    turned true = refl
    turned false = refl

-- 0 says that the reports fit
zero-fits : (buffer : List ℕ) (bs : List Breach) → number_of buffer bs ≡ 0 → size (once [] bs) ≤ length buffer
zero-fits buffer bs h = go (ltb (length buffer) (size (once [] bs))) refl (sym (by_fit buffer bs) ∙ h)
  where
    go : (b : Bool) → ltb (length buffer) (size (once [] bs)) ≡ b → ◌≡◌ {A = ℕ} (cond b 11 0) 0 → size (once [] bs) ≤ length buffer
    go true e z = absurd (omega arith)
    go false e z = ltb-false (length buffer) (size (once [] bs)) e

-- where there is no breach all fit
nothing-fits : (buffer : List ℕ) → number_of buffer [] ≡ 0
unfolding reported once fitting
nothing-fits buffer = refl

-- and where the reports of more breaches fit, so do these
fewer_fit : (buffer : List ℕ) (xs ys : List Breach) → number_of buffer (xs ++ ys) ≡ 0 → number_of buffer xs ≡ 0
unfolding size
fewer_fit buffer xs ys h =
    let all : size (once [] xs ++ once (xs ++ []) ys) ≤ length buffer = subst (λ (l : List Breach). size l ≤ length buffer) (once_append [] xs ys) (zero-fits buffer (xs ++ ys) h) in
    let parts : size (once [] xs ++ once (xs ++ []) ys) ≡ size (once [] xs) + size (once (xs ++ []) ys) = ap length (gather_append encoded (once [] xs) (once (xs ++ []) ys)) ∙ length-append (gather encoded (once [] xs)) (gather encoded (once (xs ++ []) ys)) in
    by_fit buffer xs ∙ ap (λ (b : Bool). cond b 11 0) (le-ltb (length buffer) (size (once [] xs)) (omega (arith, all, parts)))

-- ---- the visits that are begun

module _ (buffer : List ℕ) where
  one_more : (before : List Breach) (v : List Breach) (vs : List (List Breach)) → number_of buffer before ≡ 0 → begun buffer before (v ∷ vs) ≡ suc (begun buffer (before ++ v) vs)
  unfolding begun
  one_more before v vs h = ap (λ (n : ℕ). cond (eqb n 0) (suc (begun buffer (before ++ v) vs)) 0) h

  no_more : (before : List Breach) (vs : List (List Breach)) → number_of buffer before ≡ 11 → begun buffer before vs ≡ 0
  unfolding begun
  no_more before [] h = refl
  no_more before (v ∷ vs) h = ap (λ (n : ℕ). cond (eqb n 0) (suc (begun buffer (before ++ v) vs)) 0) h

  -- all, where all reports fit
  pub all_begun : (before : List Breach) (vs : List (List Breach)) → number_of buffer (before ++ found_by vs) ≡ 0 → begun buffer before vs ≡ length vs
  unfolding begun gather
  all_begun before [] h = refl
  all_begun before (v ∷ vs) h =
      one_more before v vs (fewer_fit buffer before (v ++ found_by vs) h)
      ∙ ap suc (all_begun (before ++ v) vs (subst (λ (l : List Breach). number_of buffer l ≡ 0) (sym (append_assoc before v (found_by vs))) h))

  -- never more
  few_begun : (before : List Breach) (vs : List (List Breach)) → begun buffer before vs ≤ length vs
  unfolding begun
  few_begun before [] = omega arith
  few_begun before (v ∷ vs) = go (eqb (number_of buffer before) 0) (begun buffer (before ++ v) vs) (few_begun (before ++ v) vs)
    where
      go : (b : Bool) (n : ℕ) → n ≤ length vs → cond b (suc n) 0 ≤ length (v ∷ vs)
      go true n h = omega arith
      go false n h = omega arith

  -- up to the one whose report does not fit, where there is such a one
  record Stops (found : List Breach) (visits : List (List Breach)) (n : ℕ) : Type 0 where
    before : List (List Breach)
    last : List Breach
    after : List (List Breach)
    split : visits ≡ before ++ (last ∷ after)
    fits : number_of buffer (found ++ found_by before) ≡ 0
    over : number_of buffer (found ++ (found_by before ++ last)) ≡ 11
    count : n ≡ suc (length before)

  some_begun : (found : List Breach) (vs : List (List Breach)) → number_of buffer found ≡ 0 → number_of buffer (found ++ found_by vs) ≡ 11 → Stops found vs (begun buffer found vs)
  unfolding gather
  some_begun found [] h o =
      let z : number_of buffer found ≡ 11 = subst (λ (l : List Breach). number_of buffer l ≡ 11) (append-nil found) o in
      absurd (omega (arith, h, z))
  some_begun found (v ∷ vs) h o =
      go (ltb (length buffer) (size (once [] (found ++ v)))) (by_fit buffer (found ++ v))
      (λ fits. some_begun (found ++ v) vs fits (subst (λ (l : List Breach). number_of buffer l ≡ 11) (sym (append_assoc found v (found_by vs))) o))
    where
      go : (b : Bool) → number_of buffer (found ++ v) ≡ cond b 11 0 → (number_of buffer (found ++ v) ≡ 0 → Stops (found ++ v) vs (begun buffer (found ++ v) vs)) → Stops found (v ∷ vs) (begun buffer found (v ∷ vs))
      go true e rest = record {
        before = [];
        last = v;
        after = vs;
        split = refl;
        fits = subst (λ (l : List Breach). number_of buffer l ≡ 0) (sym (append-nil found)) h;
        over = e;
        count = one_more found v vs h ∙ ap suc (no_more (found ++ v) vs e);
      }
      go false e rest =
          let r = rest e in
          record {
            before = v ∷ r.before;
            last = r.last;
            after = r.after;
            split = ap (λ (l : List (List Breach)). v ∷ l) r.split;
            fits = subst (λ (l : List Breach). number_of buffer l ≡ 0) (append_assoc found v (found_by r.before)) r.fits;
            over = subst (λ (l : List Breach). number_of buffer l ≡ 11) (append_assoc found v (found_by r.before ++ r.last) ∙ ap (λ (l : List Breach). found ++ l) (sym (append_assoc v (found_by r.before) r.last))) r.over;
            count = one_more found v vs h ∙ ap suc r.count;
          }

-- ---- how many visits there are

module _ (k : Choices) (s : Schema) (c : Condition) (scope : Scope) where
  pub by_target : (t : Target) → length (visits_under k s c scope t) ≡ cond (is_checked s scope t) (length (reached c)) 0
  unfolding visits_under_by
  by_target t = go (is_checked s scope t) (breaches_at _ _ _ _ _)
    where
      go : (b : Bool) (f : Scoped → List Breach) → length (cond b (map f (nodes_by k.binding c)) []) ≡ cond b (length (reached c)) 0
      go true f = length-map (nodes_by k.binding c) f ∙ length_by c k.binding
      go false f = refl

  pub in_all : (list : List Target) → length (gather (visits_under k s c scope) list) ≡ length (select (is_checked s scope) list) * length (reached c)
  unfolding gather select
  in_all [] = sym (zero-mul (length (reached c)))
  in_all (t ∷ list) = length-append (visits_under k s c scope t) (gather (visits_under k s c scope) list) ∙ go (is_checked s scope t) _ (by_target t) _ (in_all list)
    where
      go : (b : Bool) (m : ℕ) → m ≡ cond b (length (reached c)) 0 → (o : ℕ) → o ≡ length (select (is_checked s scope) list) * length (reached c)
          → m + o ≡ length (cond b (t ∷ select (is_checked s scope) list) (select (is_checked s scope) list)) * length (reached c)
      go true m e o f = omega (arith, e, f, suc-mul (length (select (is_checked s scope) list)) (length (reached c)))
      go false m e o f = omega (arith, e, f)

  -- each target has no more than so many bytes pay for
  in_bytes : (long : ℕ) → length (reached c) * 9 ≤ long → (list : List Target) → length (gather (visits_under k s c scope) list) * 9 ≤ length list * long
  unfolding gather
  in_bytes long h [] = omega (arith, zero-mul long)
  in_bytes long h (t ∷ list) =
      go (is_checked s scope t) (length (visits_under k s c scope t)) (by_target t) (length (gather (visits_under k s c scope) list)) (in_bytes long h list)
      _ (length-append (visits_under k s c scope t) (gather (visits_under k s c scope) list))
    where
      go : (b : Bool) (m : ℕ) → m ≡ cond b (length (reached c)) 0 → (o : ℕ) → o * 9 ≤ length list * long → (n : ℕ) → n ≡ m + o → n * 9 ≤ length (t ∷ list) * long
      go true m e o f n g = omega (arith, e, f, g, h, suc-mul (length list) long)
      go false m e o f n g = omega (arith, e, f, g, suc-mul (length list) long)

-- ---- the claims

-- a record that is accepted has nine bytes for each reached condition behind its mark and version
pub nine_each : (s : List ℕ) {c : Condition} {n : ℕ} → whole condition_record s ≡ got c n → length (reached c) * 9 ≤ length s - 5
unfolding record_in
nine_each s e = let few = subst (λ (x : Condition). 9 * length (reached x) + 5 ≤ length s) (has_value _ e) (record_nodes s (is_accepted e)) in omega (arith, few)

module _ (schema_bytes condition_bytes target_bytes : List ℕ) where
  module _ (s : Schema) (c : Condition) (ts : Targets) (is : Accepted schema_bytes condition_bytes target_bytes s c ts) where
    -- a run is the check of what the records hold
    module _ (rules : ℕ) (r : Run rules schema_bytes condition_bytes target_bytes) where
      abbrev all : List (List Breach)
      all = visits_of schema_bytes condition_bytes target_bytes s c ts rules

      run : check_outcome_of r.answer r.after ≡ checked (choices_of rules) s c ts r.before
      unfolding check_with_by
      run = r.contract ∙ rw (is.schema, is.condition, is.targets)

      number_is : r.answer.number ≡ number_of r.before (found_by all)
      unfolding check_outcome_of checked_by
      number_is =
          ap (λ (o : CheckOutcome). o.outcome.answer.number) run
          ∙ ap (number_of r.before) (sym (found_all (choices_of rules) s c ts.scope ts.list))

      visits_are : r.answer.visits ≡ begun r.before [] all
      unfolding check_outcome_of checked_by
      visits_are = ap (λ (o : CheckOutcome). o.visits) run

      product : r.answer.number ≡ 0 → r.answer.visits ≡ length (select (is_checked s ts.scope) ts.list) * length (reached c)
      product h = visits_are ∙ all_begun r.before [] all (sym number_is ∙ h) ∙ in_all (choices_of rules) s c ts.scope ts.list

      bound : r.answer.visits * 9 ≤ length ts.list * (length condition_bytes - 5)
      bound =
          below (visits_are) (few_begun r.before [] all) (in_bytes (choices_of rules) s c ts.scope (length condition_bytes - 5) (nine_each condition_bytes is.condition) ts.list)
        where
          below : {v b l n : ℕ} → v ≡ b → b ≤ l → l * 9 ≤ n → v * 9 ≤ n
          below e f g = omega (arith, e, f, g)

      stops : r.answer.number ≡ 11 → StopsAt r.before all r.answer.visits
      stops h =
          let o = some_begun r.before [] all (nothing-fits r.before) (sym number_is ∙ h) in
          record { before = o.before; last = o.last; after = o.after; split = o.split; fits = o.fits; over = o.over; count = visits_are ∙ o.count }

    pub billed : Billed schema_bytes condition_bytes target_bytes s c ts
    billed =
        record {
          visits = λ rules r. record { product = product rules r; bound = bound rules r; stops = stops rules r };
          any_rules = λ own also a b z w. product own a z ∙ sym (product also b w);
        }

  -- the first refusal has no visit
  module _ (buffer : List ℕ) (k : Choices) where
    abbrev None : CheckOutcome → Type 0
    None o = (o.outcome.answer.record_number ≡ 0 → ⊥) → o.visits ≡ 0

    none_targets : (s : Schema) (c : Condition) (g : Got Targets) → None (either (λ r. unvisited r 3 buffer) (λ ts. checked k s c ts buffer) g)
    unfolding checked_by reported
    none_targets s c (got ts n) h = absurd (h refl)
    none_targets s c (bad r) h = refl

    none_condition : (s : Schema) (g : Got Condition) (l : Got Targets) → None (either (λ r. unvisited r 2 buffer) (λ c. either (λ r. unvisited r 3 buffer) (λ ts. checked k s c ts buffer) l) g)
    none_condition s (got c n) l h = none_targets s c l h
    none_condition s (bad r) l h = refl

    none_schema : (g : Got Schema) (d : Got Condition) (l : Got Targets)
        → None (either (λ r. unvisited r 1 buffer) (λ s. either (λ r. unvisited r 2 buffer) (λ c. either (λ r. unvisited r 3 buffer) (λ ts. checked k s c ts buffer) l) d) g)
    none_schema (got s n) d l h = none_condition s d l h
    none_schema (bad r) d l h = refl

  pub billed_of : BilledOf schema_bytes condition_bytes target_bytes
  unfolding check_outcome_of check_with_by
  billed_of = record {
    accepted = λ s c ts is. billed s c ts is;
    refused = λ rules r h.
        ap (λ (o : CheckOutcome). o.visits) r.contract
        ∙ none_schema r.before (choices_of rules) (whole schema_record schema_bytes) (whole condition_record condition_bytes) (whole target_record target_bytes)
        (λ z. h (ap (λ (o : CheckOutcome). o.outcome.answer.record_number) r.contract ∙ z));
  }
