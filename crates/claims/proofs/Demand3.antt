-- Demand 3, of runs of the check: `demand3` is the claim of `specs/Breaches.antt`. `alone` is about one run, `joined` about lists joined, `alike` about
-- order and repeats. Assumes nothing.
use Prim.Native.Nat.{ℕ, ◌+◌, ◌≤◌}
use mathlib.Core.Path.{◌≡◌, refl, sym, ap, subst, ◌∙◌}
use mathlib.Core.Bool.{Bool, true, false, cond}
use mathlib.Core.Logic.{inl, inr, ⊎_elim, ◌↔◌}
use mathlib.Core.List.{List, [], ◌∷◌, ◌++◌}
use mathlib.Core.Option.{Option, none, some}
use lib.ListN.{length}
use Rattle.names.specs.Lists.{maybe, gather}
use Rattle.names.specs.Laws.Lists.{gather_append}
use Rattle.types.specs.Types.{dated}
use Rattle.schema.specs.Schema.{Schema, Action}
use Rattle.schema.specs.Find.{find_action}
use Rattle.condition.specs.Condition.{Condition}
use Rattle.walk.specs.Scopes.{nodes_by}
use Rattle.targets.specs.Targets.{Target, Targets, Scope}
use Rattle.resolution.specs.Resolution.{admits_any_env}
use Rattle.reports.specs.Reports.{Breach, Outcome, once, reported}
use Rattle.reports.specs.Laws.Reports as laws
use Rattle.reports.specs.Laws.Once.{both, both_in, both_nodup}
use Rattle.reports.specs.Laws.Sets.{in_left, in_right, in_append, length_same}
use Rattle.reports.specs.Pairs.{◌∈◌, Pair, pair_of, pairs, space}
use Rattle.typecheck.specs.Check.{Choices, choices_of, breaches_at, breaches_under_by, breaches_under, is_checked, CheckOutcome, checked_by, check_with_by}
use Rattle.typecheck.specs.Answers.{check_outcome_of}
use Rattle.claims.specs.Written.{written}
use Rattle.claims.specs.Breaches.{Accepted, BreachOf, PairOf, Different, SpaceForAll, Run, reported_pairs, Shared, under, Alone, Taken, RunOf, Counts, Joined, Alike, Claim}
use Rattle.claims.proofs.Written.{no_other_lem, front_accepted, behind_accepted}

-- ---- what is gathered from a list, and the pairs of a list

module _ {A B : Type 0} (f : A → List B) where
  record Source (list : List A) (b : B) : Type 0 where
    own : A
    listed : own ∈ list
    gives : b ∈ f own

  source : (list : List A) (b : B) → b ∈ gather f list → Source list b
  unfolding gather
  source [] b h = absurd h
  source (x ∷ xs) b h =
      ⊎_elim (λ i. record { own = x; listed = inl refl; gives = i })
      (λ i. let r = source xs b i in record { own = r.own; listed = inr r.listed; gives = r.gives })
      (in_append b (f x) (gather f xs) h)

  gathered : (list : List A) (b : B) (a : A) → a ∈ list → b ∈ f a → b ∈ gather f list
  unfolding gather
  gathered [] b a h i = absurd h
  gathered (x ∷ xs) b a (inl e) i = in_left b (f x) (gather f xs) (subst (λ (y : A). b ∈ f y) e i)
  gathered (x ∷ xs) b a (inr h) i = in_right b (f x) (gather f xs) (gathered xs b a h i)

record Of (bs : List Breach) (k : Pair) : Type 0 where
  breach : Breach
  listed : breach ∈ bs
  pair : k ≡ pair_of breach

of_list : (bs : List Breach) (k : Pair) → k ∈ pairs bs → Of bs k
of_list [] k h = absurd h
of_list (b ∷ bs) k (inl e) = record { breach = b; listed = inl refl; pair = e }
of_list (b ∷ bs) k (inr h) = let r = of_list bs k h in record { breach = r.breach; listed = inr r.listed; pair = r.pair }

in_pairs : (bs : List Breach) (b : Breach) → b ∈ bs → pair_of b ∈ pairs bs
in_pairs [] b h = absurd h
in_pairs (x ∷ bs) b (inl e) = inl (ap pair_of e)
in_pairs (x ∷ bs) b (inr h) = inr (in_pairs bs b h)

-- ---- the breaches of the rules, as a list

module _ (k : Choices) (s : Schema) (c : Condition) (scope : Scope) (t : Target) (b : Breach) where
  under_action : (action : Option Action) → Type 0
  under_action action = Source (breaches_at dated k.profile s scope action) (nodes_by k.binding c) b

  -- by what the schema says of the target
  judged : (o : Option Action) → List Breach
  judged o = maybe (gather (breaches_at dated k.profile s scope none) (nodes_by k.binding c)) (λ a. cond (admits_any_env s scope a) (gather (breaches_at dated k.profile s scope (some a)) (nodes_by k.binding c)) []) o

  from_rules : (o : Option Action) → b ∈ judged o → (maybe true (admits_any_env s scope) o ≡ true) × under_action o
  unfolding judged under_action
  from_rules none h = (refl, source _ (nodes_by k.binding c) b h)
  from_rules (some a) h = go (admits_any_env s scope a) h
    where
      go : (q : Bool) → b ∈ cond q (gather (breaches_at dated k.profile s scope (some a)) (nodes_by k.binding c)) [] → (q ≡ true) × Source (breaches_at dated k.profile s scope (some a)) (nodes_by k.binding c) b
      go true h = (refl, source _ (nodes_by k.binding c) b h)
      go false h = absurd h

  by_rules : (o : Option Action) → maybe true (admits_any_env s scope) o ≡ true → under_action o → b ∈ judged o
  unfolding judged under_action
  by_rules none e r = gathered _ (nodes_by k.binding c) b r.own r.listed r.gives
  by_rules (some a) e r = rw e (gathered _ (nodes_by k.binding c) b r.own r.listed r.gives)

-- all breaches of a run, in its order
abbrev pub breaches : ℕ → Schema → Condition → Targets → List Breach
breaches rules s c ts = gather (breaches_under (choices_of rules) s c ts.scope) ts.list

module _ (rules : ℕ) (s : Schema) (c : Condition) (ts : Targets) where
  is_breach_lem : (b : Breach) → b ∈ breaches rules s c ts → BreachOf rules s c ts b
  unfolding breaches_under_by is_checked judged under_action
  is_breach_lem b h =
      let r = source (breaches_under (choices_of rules) s c ts.scope) ts.list b h in
      let t = r.own in
      let i = from_rules (choices_of rules) s c ts.scope t b (find_action s t.namespace t.id) r.gives in
      record { target = t; listed = r.listed; checked = i.0; breach = record { node = i.1.own; is_reached = i.1.listed; breaks = i.1.gives } }

  breach_in : (b : Breach) → BreachOf rules s c ts b → b ∈ breaches rules s c ts
  unfolding breaches_under_by is_checked judged under_action
  breach_in b r =
      let t = r.target in
      gathered (breaches_under (choices_of rules) s c ts.scope) ts.list b t r.listed
      (by_rules (choices_of rules) s c ts.scope t b (find_action s t.namespace t.id) r.checked (record { own = r.breach.node; listed = r.breach.is_reached; gives = r.breach.breaks }))

  pub pair_of_lem : (k : Pair) → (k ∈ pairs (breaches rules s c ts)) ↔ PairOf rules s c ts k
  pair_of_lem k = (
    (λ h. let r = of_list (breaches rules s c ts) k h in record { breach = r.breach; pair = r.pair; is_breach = is_breach_lem r.breach r.listed }),
    (λ r. subst (λ (j : Pair). j ∈ pairs (breaches rules s c ts)) (sym r.pair) (in_pairs (breaches rules s c ts) r.breach (breach_in r.breach r.is_breach))),
  )

  -- the pairs that a run reports are the different ones
  different : Different rules s c ts (pairs (once [] (breaches rules s c ts)))
  different =
      record {
        each = laws.no_repeats (breaches rules s c ts);
        all = λ k. ((λ h. (pair_of_lem k).0 ((laws.members (breaches rules s c ts) k).0 h)), (λ h. (laws.members (breaches rules s c ts) k).1 ((pair_of_lem k).1 h)));
      }

-- ---- demand 3

no_breach : (rules : ℕ) (s : Schema) (c : Condition) (ts : Targets) → (breaches rules s c ts ≡ []) ↔ ((b : Breach) → BreachOf rules s c ts b → ⊥)
no_breach rules s c ts = ((λ e b r. subst (λ (l : List Breach). b ∈ l) e (breach_in rules s c ts b r)), (λ f. go (breaches rules s c ts) (λ b h. f b (is_breach_lem rules s c ts b h))))
  where
    go : (l : List Breach) → ((b : Breach) → b ∈ l → ⊥) → l ≡ []
    go [] f = refl
    go (b ∷ l) f = absurd (f b (inl refl))

module _ (rules : ℕ) (schema_bytes condition_bytes : List ℕ) (s : Schema) (c : Condition) where
  -- what a run over accepted records leaves is given by its breaches
  module _ (target_bytes : List ℕ) (ts : Targets) (is : Accepted schema_bytes condition_bytes target_bytes s c ts) (r : Run rules schema_bytes condition_bytes target_bytes) where
    abbrev left : Outcome
    left = (check_outcome_of r.answer r.after).outcome

    runs : left ≡ reported (once [] (breaches rules s c ts)) r.before
    unfolding check_with_by checked_by
    runs = ap (λ (o : CheckOutcome). o.outcome) r.contract ∙ rw (is.schema, is.condition, is.targets)

  enough : (ts : Targets) (buffer : List ℕ) → SpaceForAll rules s c ts buffer → space (pairs (once [] (breaches rules s c ts))) ≤ length buffer
  enough ts buffer room = room.room _ (different rules s c ts)

  pub alone : Alone rules schema_bytes condition_bytes s c
  unfolding check_outcome_of
  alone target_bytes ts is r room =
      let o = left target_bytes ts is r in
      let bs = breaches rules s c ts in
      let run = runs target_bytes ts is r in
      let fits = enough ts r.before room in
      let zero = laws.run_none bs r.before o run fits in
      let empty = no_breach rules s c ts in
      record {
        number = laws.run_zero bs r.before o run fits;
        pairs =
            record {
              each = laws.run_once bs r.before o run fits;
              all = λ k. ((λ h. (pair_of_lem rules s c ts k).0 ((laws.run_members bs r.before o run fits k).0 h)), (λ h. (laws.run_members bs r.before o run fits k).1 ((pair_of_lem rules s c ts k).1 h)));
            };
        count = λ ps d. laws.run_count bs r.before o run fits ps d.each (λ k. ((λ h. (pair_of_lem rules s c ts k).1 ((d.all k).0 h)), (λ h. (d.all k).1 ((pair_of_lem rules s c ts k).0 h))));
        none = ((λ e. empty.0 (zero.0 e)), (λ f. zero.1 (empty.1 f)));
        rest = laws.run_rest bs r.before o run fits;
      }

  -- the counts of two lists and of the joined one
  module _ (scope : Scope) (front behind : List Target) where
    abbrev A : Targets
    A = under scope front

    abbrev B : Targets
    B = under scope behind

    abbrev AB : Targets
    AB = under scope (front ++ behind)

    counts : Taken rules schema_bytes condition_bytes s c A → Taken rules schema_bytes condition_bytes s c B → Taken rules schema_bytes condition_bytes s c AB
        → (a : RunOf rules schema_bytes condition_bytes s c A) (b : RunOf rules schema_bytes condition_bytes s c B) (ab : RunOf rules schema_bytes condition_bytes s c AB)
        → SpaceForAll rules s c A a.before → SpaceForAll rules s c B b.before → SpaceForAll rules s c AB ab.before → Counts rules schema_bytes condition_bytes s c A B AB a b ab
    unfolding check_outcome_of
    counts is_a is_b is_aB a b ab room_a room_b room_aB =
        let xs = breaches rules s c A in
        let ys = breaches rules s c B in
        let o_a = left (written A) A is_a a in
        let o_b = left (written B) B is_b b in
        let o_aB = left (written AB) AB is_aB ab in
        let run_a = runs (written A) A is_a a in
        let run_b = runs (written B) B is_b b in
        let fit_a = enough A a.before room_a in
        let fit_b = enough B b.before room_b in
        let one : breaches rules s c AB ≡ xs ++ ys = gather_append (breaches_under (choices_of rules) s c scope) front behind in
        let run_aB : o_aB ≡ reported (once [] (xs ++ ys)) ab.before = runs (written AB) AB is_aB ab ∙ ap (λ (l : List Breach). reported (once [] l) ab.before) one in
        let fit_aB : space (pairs (once [] (xs ++ ys))) ≤ length ab.before = subst (λ (l : List Breach). space (pairs (once [] l)) ≤ length ab.before) one (enough AB ab.before room_aB) in
        let mem_a = laws.run_members xs a.before o_a run_a fit_a in
        let mem_b = laws.run_members ys b.before o_b run_b fit_b in
        let shared : Shared (reported_pairs a) (reported_pairs b) (both xs ys) =
        record {
          each = both_nodup xs ys;
          all = λ k. ((λ h. ((mem_a k).1 ((both_in xs ys k).0 h).0, (mem_b k).1 ((both_in xs ys k).0 h).1)), (λ h. (both_in xs ys k).1 ((mem_a k).0 h.0, (mem_b k).0 h.1)));
        } in
        record {
          shared = both xs ys;
          is_shared = shared;
          count = λ ps d. ap (λ (n : ℕ). ab.answer.count + n) (length_same ps (both xs ys) d.each (both_nodup xs ys) (λ k. ((λ h. (shared.all k).1 ((d.all k).0 h)), (λ h. (d.all k).1 ((shared.all k).0 h)))))
              ∙ laws.runs_joined xs ys a.before b.before ab.before o_a o_b o_aB run_a run_b run_aB fit_a fit_b fit_aB;
        }

  pub joined : Joined rules schema_bytes condition_bytes s c
  joined scope front behind is =
      let a : Taken rules schema_bytes condition_bytes s c (under scope front) =
      record { schema_end = is.schema_end; schema = is.schema; condition_end = is.condition_end; condition = is.condition; targets_end = _; targets = front_accepted scope front behind _ is.targets } in
      let b : Taken rules schema_bytes condition_bytes s c (under scope behind) =
      record { schema_end = is.schema_end; schema = is.schema; condition_end = is.condition_end; condition = is.condition; targets_end = _; targets = behind_accepted scope front behind _ is.targets } in
      record { taken_front = a; taken_behind = b; counts = counts scope front behind a b is }

  pub alike : Alike rules schema_bytes condition_bytes s c
  alike scope front behind is_a is_b same a b room_a room_b =
      let A : Targets = under scope front in
      let B : Targets = under scope behind in
      let e_a = alone (written A) A is_a a room_a in
      let e_b = alone (written B) B is_b b room_b in
      let to : (k : Pair) → PairOf rules s c A k → PairOf rules s c B k = λ k r. other front behind scope (λ t h. (same t).0 h) k r in
      let back : (k : Pair) → PairOf rules s c B k → PairOf rules s c A k = λ k r. other behind front scope (λ t h. (same t).1 h) k r in (
        (λ k. ((λ h. (e_b.pairs.all k).1 (to k ((e_a.pairs.all k).0 h))), (λ h. (e_a.pairs.all k).1 (back k ((e_b.pairs.all k).0 h))))),
        e_a.count (reported_pairs b) (record { each = e_b.pairs.each; all = λ k. ((λ h. back k ((e_b.pairs.all k).0 h)), (λ h. (e_b.pairs.all k).1 (to k h))) })
            ∙ sym (e_b.count (reported_pairs b) e_b.pairs),
      )
    where
      other : (front behind : List Target) (scope : Scope) → ((t : Target) → t ∈ front → t ∈ behind) → (k : Pair) → PairOf rules s c (under scope front) k → PairOf rules s c (under scope behind) k
      other front behind scope f k r =
          record {
            breach = r.breach;
            pair = r.pair;
            is_breach = record { target = r.is_breach.target; listed = f r.is_breach.target r.is_breach.listed; checked = r.is_breach.checked; breach = r.is_breach.breach };
          }

  pub demand3 : Claim rules schema_bytes condition_bytes s c
  demand3 = record { alone = alone; joined = joined; alike = alike; no_other = λ bytes ts is. no_other_lem bytes is.targets }
