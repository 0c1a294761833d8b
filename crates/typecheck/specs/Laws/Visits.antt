-- What the visits find is what is reported: `found_all`, from the two definitions. What the flat environment gathers: `flat_gathered`. And visits one behind the
-- other from a buffer with its state on: `begun_append`, `found_append`, `begun_run`. Assumes nothing.
use Rattle.std.specs.Prelude.{◌≡◌, refl, Bool, true, false, cond, List, [], ◌∷◌, ◌++◌, map, ℕ, suc, ◌+◌, ◌≤◌, eqb, length}
use Rattle.std.proofs.Common.{sym, ap, ap₂, ◌∙◌, arith}
use Rattle.std.proofs.Math.Option.{Option, none, some}
use Rattle.names.specs.Lists.{maybe, gather}
use Rattle.names.specs.Laws.Lists.{gather_append}
use Rattle.types.specs.Types.{Vocabulary, dated, Profile}
use Rattle.schema.specs.Schema.{Schema, Action}
use Rattle.schema.specs.Find.{find_action}
use Rattle.targets.specs.Targets.{Scope, Target}
use Rattle.condition.specs.Condition.{Condition}
use Rattle.condition.specs.Walk.{reached, binders}
use Rattle.walk.specs.Scopes.{Scoped, under, flat, nodes_by}
use Rattle.resolution.specs.Resolution.{admits_any_env}
use Rattle.terms.specs.Terms.{facts_by}
use Rattle.rules.specs.Rules.{node_breaches}
use Rattle.reports.specs.Reports.{Breach, Outcome, once, reported}
use Rattle.reports.specs.Kept.{fold, fold_append}
use Rattle.reports.specs.Sink.{Sink, push, push_all, start}
use Rattle.reports.specs.Laws.Sinks.{push_full, push_all_reported}
use Rattle.typecheck.specs.Check.{Choices, breaches_at, breaches_under_by, breaches_under, is_checked, visits_under_by, visits_under, begun}
use Rattle.typecheck.specs.Run.{found_by, begun_from}

-- under one target
pub found_under : (k : Choices) (s : Schema) (c : Condition) (scope : Scope) (t : Target) → found_by (visits_under k s c scope t) ≡ breaches_under k s c scope t
unfolding visits_under_by is_checked breaches_under_by gather
found_under k s c scope t = go (find_action s t.namespace t.id)
  where
    each : (f : Scoped → List Breach) (xs : List Scoped) → found_by (map f xs) ≡ gather f xs
    each f [] = refl
    each f (x ∷ xs) = rw (each f xs)

    admits : (b : Bool) (f : Scoped → List Breach) → found_by (cond b (map f (nodes_by k.binding c)) []) ≡ cond b (gather f (nodes_by k.binding c)) []
    admits true f = each f (nodes_by k.binding c)
    admits false f = refl

    go : (o : Option Action) → found_by (cond (maybe true (admits_any_env s scope) o) (map (breaches_at dated k.profile s scope o) (nodes_by k.binding c)) [])
        ≡ maybe (gather (breaches_at dated k.profile s scope none) (nodes_by k.binding c)) (λ a. cond (admits_any_env s scope a) (gather (breaches_at dated k.profile s scope (some a)) (nodes_by k.binding c)) []) o
    go none = each (breaches_at dated k.profile s scope none) (nodes_by k.binding c)
    go (some a) = admits (admits_any_env s scope a) (breaches_at dated k.profile s scope (some a))

-- and under all of a list
pub found_all : (k : Choices) (s : Schema) (c : Condition) (scope : Scope) (list : List Target) → found_by (gather (visits_under k s c scope) list) ≡ gather (breaches_under k s c scope) list
unfolding gather
found_all k s c scope [] = refl
found_all k s c scope (t ∷ list) = gather_append (λ v. v) (visits_under k s c scope t) (gather (visits_under k s c scope) list) ∙ ap₂ (λ (a b : List Breach). a ++ b) (found_under k s c scope t) (found_all k s c scope list)

-- in the flat environment the reached nodes are checked under the facts of the whole condition
pub flat_gathered : (v : Vocabulary) (p : Profile) (s : Schema) (c : Condition) (scope : Scope) (a : Option Action) → gather (breaches_at v p s scope a) (nodes_by flat c) ≡ gather (node_breaches (facts_by v p s c scope a)) (reached c)
unfolding nodes_by gather
flat_gathered v p s c scope a = go (reached c)
  where
    go : (xs : List Condition) → gather (breaches_at v p s scope a) (map (under (binders c)) xs) ≡ gather (node_breaches (facts_by v p s c scope a)) xs
    go [] = refl
    go (x ∷ xs) = ap (λ (bs : List Breach). node_breaches (facts_by v p s c scope a) x ++ bs) (go xs)

-- ---- visits one behind the other, from a buffer with its state on

-- a buffer that is full stays as it is, and no visit is begun any more
pub full_stays : (s : Sink) → s.state.full ≡ true → (bs : List Breach) → push_all s bs ≡ s
unfolding fold
full_stays s h [] = refl
full_stays s h (b ∷ bs) = rw (← push_full s.bytes s.state b h) (full_stays s h bs)

pub full_begins : (s : Sink) → s.state.full ≡ true → (visits : List (List Breach)) → begun_from s visits ≡ 0
unfolding begun_from
full_begins s h [] = refl
full_begins s h (v ∷ vs) = rw h

pub found_append : (s : Sink) (xs ys : List (List Breach)) → push_all s (found_by (xs ++ ys)) ≡ push_all (push_all s (found_by xs)) (found_by ys)
found_append s xs ys = ap (push_all s) (gather_append (λ v. v) xs ys) ∙ fold_append push s (found_by xs) (found_by ys)

pub open_begins : (s : Sink) → s.state.full ≡ false → (v : List Breach) (vs : List (List Breach)) → begun_from s (v ∷ vs) ≡ suc (begun_from (push_all s v) vs)
unfolding begun_from
open_begins s h v vs = ap (λ (b : Bool). cond b 0 (suc (begun_from (push_all s v) vs))) h

pub none_begins : (s : Sink) → begun_from s [] ≡ 0
unfolding begun_from
none_begins s = refl

pub begun_append : (s : Sink) (xs ys : List (List Breach)) → begun_from s (xs ++ ys) ≡ begun_from s xs + begun_from (push_all s (found_by xs)) ys
unfolding gather fold
begun_append s [] ys = omega (arith, none_begins s)
begun_append s (x ∷ xs) ys = go s.state.full refl (begun_append (push_all s x) xs ys)
  where
    go : (full : Bool) → s.state.full ≡ full → begun_from (push_all s x) (xs ++ ys) ≡ begun_from (push_all s x) xs + begun_from (push_all (push_all s x) (found_by xs)) ys
        → begun_from s (x ∷ (xs ++ ys)) ≡ begun_from s (x ∷ xs) + begun_from (push_all s (x ++ found_by xs)) ys
    go true e rest =
        omega (arith, full_begins s e (x ∷ (xs ++ ys)), full_begins s e (x ∷ xs), ap (λ (t : Sink). begun_from t ys) (full_stays s e (x ++ found_by xs)), full_begins s e ys)
    go false e rest =
        omega (arith, open_begins s e x (xs ++ ys), open_begins s e x xs, ap (λ (t : Sink). begun_from t ys) (fold_append push s x (found_by xs)), rest)

pub begun_few : (s : Sink) (visits : List (List Breach)) → begun_from s visits ≤ length visits
unfolding begun_from
begun_few s [] = omega arith
begun_few s (v ∷ vs) = go s.state.full (begun_from (push_all s v) vs) (begun_few (push_all s v) vs)
  where
    go : (full : Bool) (n : ℕ) → n ≤ length vs → cond full 0 (suc n) ≤ length (v ∷ vs)
    go true n h = omega arith
    go false n h = omega arith

-- a run from no report begins the visits of the definition
pub begun_run : (old : List ℕ) (before : List Breach) (visits : List (List Breach)) → begun_from (push_all (start old) before) visits ≡ begun old before visits
unfolding begun_from begun
begun_run old before [] = refl
begun_run old before (v ∷ vs) =
    let e : (reported (once [] before) old).answer.number ≡ cond (push_all (start old) before).state.full 11 0 = sym (ap (λ (o : Outcome). o.answer.number) (push_all_reported old before)) in
    let next : begun_from (push_all (push_all (start old) before) v) vs ≡ begun old (before ++ v) vs = ap (λ (s : Sink). begun_from s vs) (sym (fold_append push (start old) before v)) ∙ begun_run old (before ++ v) vs in
    go (push_all (start old) before).state.full _ e (begun_from (push_all (push_all (start old) before) v) vs) (begun old (before ++ v) vs) next
  where
    go : (full : Bool) (number : ℕ) → number ≡ cond full 11 0 → (a b : ℕ) → a ≡ b → cond full 0 (suc a) ≡ cond (eqb number 0) (suc b) 0
    go true number e a b q = rw e
    go false number e a b q = rw (e, q)
