-- A change of windows, ids, values and operators changes no answer of Check and Sums, and one that keeps the windows changes no listing. Assumes nothing.
use mathlib.Core.Path.{◌≡◌, refl, sym, ap, ap₂, ◌∙◌}
use mathlib.Core.Bool.{true, cond}
use mathlib.Core.List.{List, [], ◌∷◌, ◌++◌, map, map-append, map-map}
use mathlib.Core.Option.{Option, none, some}
use Prim.Native.Nat.{ℕ}
use Rattle.names.specs.Names.{simple_name}
use Rattle.names.specs.Lists.{maybe, gather}
use Rattle.names.specs.Laws.Lists.{gather_append}
use Rattle.names.specs.Fields.{Got, got, bad, either, whole}
use Rattle.names.specs.Laws.Readers.{accept, has_value}
use Rattle.types.specs.Types.{Ty, dated}
use Rattle.types.specs.Types as types
use Rattle.schema.specs.Schema.{Schema, Action, schema_record}
use Rattle.schema.specs.Find.{find_action}
use Rattle.targets.specs.Targets.{Target, Targets, Scope, target_record}
use Rattle.resolution.specs.Resolution.{admits_any_env, predicate_action, context_type_by}
use Rattle.condition.specs.Condition as tree
use Rattle.condition.specs.Condition.{Slot, Span, Condition, Arguments, Term, Terms, Aggregate, Binder, one, two, predicate, comparison, exists, tp, opaque, no_argument, argument, entity, literal, context_field, scope_field, var, wildcard, array, aggregate, sigil, nil, cons, sum, count, call, named, param_ref, binder_ref, condition_record}
use Rattle.condition.specs.Walk.{declared_by, operand_aggregates, operand_binders, reached, reached_in, reached_body, declares, binders}
use Rattle.condition.specs.Places.{is_record, record_in}
use Rattle.walk.specs.Scopes.{Scoped, under, scoped, scoped_in, scoped_body, Binding, binding_of, nodes_by}
use Rattle.terms.specs.Terms.{Facts, facts_among, term_type, element_types, array_of}
use Rattle.reports.specs.Reports.{Breach, once, reported}
use Rattle.rules.specs.Rules.{both, ordering, operands_by, not_long_here, argument_breach, argument_breaches, leaf_breaches, arithmetic_breaches, node_breaches}
use Rattle.typecheck.specs.Check.{Choices, choices_of, breaches_at, breaches_under_by, breaches_under, is_checked, visits_under_by, visits_under, begun, CheckOutcome, unvisited, checked_by, checked, check_with_by, check_with}
use Rattle.sums.specs.Sums.{aggregate_breaches, term_breaches, terms_breaches, arguments_breaches, condition_breaches, breaches, sums_with}
use Rattle.sweeps.specs.Windows.{concrete_of, concrete_in, concrete_windows, in_sweeps, entries, swept, windows}
use Rattle.claims.specs.Changes.{Change, KeepsTypes, KeepsWindows, changed, in_arguments, in_term, in_terms, in_aggregate, Alike, ListedAlike, Unseen, ChangedOnce, Unlisted, ListedOnce}

gather_same : {A B : Type 0} {f g : A → List B} → ((a : A) → f a ≡ g a) → (xs : List A) → gather f xs ≡ gather g xs
unfolding gather
gather_same e [] = refl
gather_same e (x ∷ xs) = ap₂ ◌++◌ (e x) (gather_same e xs)

joined : {A B : Type 0} (f : A → List B) (xs ys : List A) {us vs : List B} → gather f xs ≡ us → gather f ys ≡ vs → gather f (xs ++ ys) ≡ us ++ vs
joined f xs ys e h = gather_append f xs ys ∙ ap₂ ◌++◌ e h

-- a list of one thing for each is gathered by lists of one
map_gathered : {A B : Type 0} (f : A → B) (xs : List A) → map f xs ≡ gather (λ x. f x ∷ []) xs
unfolding gather
map_gathered f [] = refl
map_gathered f (x ∷ xs) = ap (λ ys. f x ∷ ys) (map_gathered f xs)

module _ (change : Change) where
  -- ---- what a walk gathers of the reached conditions

  module _ {B : Type 0} (g h : Condition → List B) (same : (x : Condition) → g (changed change x) ≡ h x) where
    mutual
      unfolding changed in_term in_aggregate reached reached_in reached_body gather

      pub gathered : (c : Condition) → gather g (reached (changed change c)) ≡ gather h (reached c)
      gathered (one k at c) = ap₂ ◌++◌ (same (one k at c)) (gathered c)
      gathered (two k at l r) = ap₂ ◌++◌ (same (two k at l r)) (joined g (reached (changed change l)) (reached (changed change r)) (gathered l) (gathered r) ∙ sym (gather_append h (reached l) (reached r)))
      gathered (predicate at own ns act args) = ap₂ ◌++◌ (same (predicate at own ns act args)) refl
      gathered (comparison at op l r) = ap₂ ◌++◌ (same (comparison at op l r)) (joined g (reached_in (in_term change l)) (reached_in (in_term change r)) (gathered_in l) (gathered_in r) ∙ sym (gather_append h (reached_in l) (reached_in r)))
      gathered (exists at b c) = ap₂ ◌++◌ (same (exists at b c)) (gathered c)
      gathered (tp at s) = ap₂ ◌++◌ (same (tp at s)) refl
      gathered (opaque at) = ap₂ ◌++◌ (same (opaque at)) refl

      gathered_in : (t : Term) → gather g (reached_in (in_term change t)) ≡ gather h (reached_in t)
      gathered_in (entity n) = refl
      gathered_in (literal l) = refl
      gathered_in (context_field p) = refl
      gathered_in (scope_field p) = refl
      gathered_in (var v) = refl
      gathered_in wildcard = refl
      gathered_in (array ts) = refl
      gathered_in (aggregate a) = gathered_body a
      gathered_in (tree.arith op l r) = joined g (reached_in (in_term change l)) (reached_in (in_term change r)) (gathered_in l) (gathered_in r) ∙ sym (gather_append h (reached_in l) (reached_in r))
      gathered_in sigil = refl

      gathered_body : (a : Aggregate) → gather g (reached_body (in_aggregate change a)) ≡ gather h (reached_body a)
      gathered_body (sum at summand bs body) = gathered body
      gathered_body (count at bs body) = gathered body
      gathered_body (call at) = refl

  -- ---- the binders

  same_declared : (a : Aggregate) → declared_by (in_aggregate change a) ≡ declared_by a
  unfolding in_aggregate declared_by
  same_declared (sum at summand bs body) = refl
  same_declared (count at bs body) = refl
  same_declared (call at) = refl

  same_operand : (t : Term) → operand_binders (in_term change t) ≡ operand_binders t
  unfolding in_term operand_binders operand_aggregates gather
  same_operand (entity n) = refl
  same_operand (literal l) = refl
  same_operand (context_field p) = refl
  same_operand (scope_field p) = refl
  same_operand (var v) = refl
  same_operand wildcard = refl
  same_operand (array ts) = refl
  same_operand (aggregate a) = ap (λ bs. bs ++ []) (same_declared a)
  same_operand (tree.arith op l r) = joined declared_by (operand_aggregates (in_term change l)) (operand_aggregates (in_term change r)) (same_operand l) (same_operand r) ∙ sym (gather_append declared_by (operand_aggregates l) (operand_aggregates r))
  same_operand sigil = refl

  same_declares : (c : Condition) → declares (changed change c) ≡ declares c
  unfolding changed declares
  same_declares (one k at c) = refl
  same_declares (two k at l r) = refl
  same_declares (predicate at own ns act args) = refl
  same_declares (comparison at op l r) = ap₂ ◌++◌ (same_operand l) (same_operand r)
  same_declares (exists at b c) = refl
  same_declares (tp at s) = refl
  same_declares (opaque at) = refl

  same_binders : (c : Condition) → binders (changed change c) ≡ binders c
  unfolding binders
  same_binders c = gathered declares declares same_declares c

  -- ---- the reached conditions, each with the binders that its names are looked up among

  abbrev changed_in : Scoped → Scoped
  changed_in x = under x.around (changed change x.node)

  mutual
    unfolding changed in_term in_aggregate scoped scoped_in scoped_body

    scoped_changed : (bs : List Binder) (c : Condition) → scoped bs (changed change c) ≡ map changed_in (scoped bs c)
    scoped_changed bs (one k at c) = ap (λ l. under bs (changed change (one k at c)) ∷ l) (scoped_changed bs c)
    scoped_changed bs (two k at l r) =
        ap (λ m. under bs (changed change (two k at l r)) ∷ m) (ap₂ ◌++◌ (scoped_changed bs l) (scoped_changed bs r) ∙ sym (map-append changed_in (scoped bs l) (scoped bs r)))
    scoped_changed bs (predicate at own ns act args) = refl
    scoped_changed bs (comparison at op l r) =
        ap (λ m. under bs (changed change (comparison at op l r)) ∷ m) (ap₂ ◌++◌ (within_changed bs l) (within_changed bs r) ∙ sym (map-append changed_in (scoped_in bs l) (scoped_in bs r)))
    scoped_changed bs (exists at b c) = ap (λ l. under bs (changed change (exists at b c)) ∷ l) (scoped_changed (bs ++ (b ∷ [])) c)
    scoped_changed bs (tp at s) = refl
    scoped_changed bs (opaque at) = refl

    within_changed : (bs : List Binder) (t : Term) → scoped_in bs (in_term change t) ≡ map changed_in (scoped_in bs t)
    within_changed bs (entity n) = refl
    within_changed bs (literal l) = refl
    within_changed bs (context_field p) = refl
    within_changed bs (scope_field p) = refl
    within_changed bs (var v) = refl
    within_changed bs wildcard = refl
    within_changed bs (array ts) = refl
    within_changed bs (aggregate a) = body_changed bs a
    within_changed bs (tree.arith op l r) = ap₂ ◌++◌ (within_changed bs l) (within_changed bs r) ∙ sym (map-append changed_in (scoped_in bs l) (scoped_in bs r))
    within_changed bs sigil = refl

    body_changed : (bs : List Binder) (a : Aggregate) → scoped_body bs (in_aggregate change a) ≡ map changed_in (scoped_body bs a)
    body_changed bs (sum at slot own body) = scoped_changed (bs ++ own) body
    body_changed bs (count at own body) = scoped_changed (bs ++ own) body
    body_changed bs (call at) = refl

  nodes_changed : (b : Binding) (c : Condition) → nodes_by b (changed change c) ≡ map changed_in (nodes_by b c)
  unfolding nodes_by
  nodes_changed Binding.flat c =
      ap (λ bs. map (under bs) (reached (changed change c))) (same_binders c)
      ∙ map_gathered (under (binders c)) (reached (changed change c))
      ∙ gathered (λ x. under (binders c) x ∷ []) (λ x. under (binders c) (changed change x) ∷ []) (λ x. refl) c
      ∙ sym (map_gathered (λ x. under (binders c) (changed change x)) (reached c))
      ∙ sym (map-map changed_in (under (binders c)) (reached c))
  nodes_changed Binding.own c = scoped_changed [] c

  -- what is gathered from them, and a list of one thing for each
  module _ {B : Type 0} (f : Scoped → B) (same : (x : Scoped) → f (changed_in x) ≡ f x) where
    each_changed : (b : Binding) (c : Condition) → map f (nodes_by b (changed change c)) ≡ map f (nodes_by b c)
    each_changed b c = ap (map f) (nodes_changed b c) ∙ go (nodes_by b c)
      where
        go : (xs : List Scoped) → map f (map changed_in xs) ≡ map f xs
        go [] = refl
        go (x ∷ xs) = ap₂ ◌∷◌ (same x) (go xs)

  module _ {B : Type 0} (f : Scoped → List B) (same : (x : Scoped) → f (changed_in x) ≡ f x) where
    all_changed : (b : Binding) (c : Condition) → gather f (nodes_by b (changed change c)) ≡ gather f (nodes_by b c)
    unfolding gather
    all_changed b c = ap (gather f) (nodes_changed b c) ∙ go (nodes_by b c)
      where
        go : (xs : List Scoped) → gather f (map changed_in xs) ≡ gather f xs
        go [] = refl
        go (x ∷ xs) = ap₂ ◌++◌ (same x) (go xs)

  -- ---- the windows

  module _ (keeps : KeepsWindows change) where
    same_concrete : (c : Condition) → concrete_in (changed change c) ≡ concrete_in c
    unfolding changed concrete_in concrete_of
    same_concrete (one tree.negation at c) = refl
    same_concrete (one tree.refine at c) = refl
    same_concrete (one (tree.formerly w) at c) = keeps at.start w
    same_concrete (one (tree.previous w) at c) = keeps at.start w
    same_concrete (two tree.and at l r) = refl
    same_concrete (two tree.or at l r) = refl
    same_concrete (two (tree.since w) at l r) = keeps at.start w
    same_concrete (predicate at own ns act args) = refl
    same_concrete (comparison at op l r) = refl
    same_concrete (exists at b c) = refl
    same_concrete (tp at s) = refl
    same_concrete (opaque at) = refl

    same_entries : (period : ℕ) (c : Condition) → entries period (changed change c) ≡ entries period c
    unfolding entries concrete_windows
    same_entries period c = ap (map (in_sweeps period)) (gathered concrete_in concrete_in same_concrete c)

module _ (change : Change) (keeps : KeepsTypes change) where
  -- ---- the types

  mutual
    unfolding in_term in_terms term_type element_types

    same_type : (f : Option Facts) (t : Term) → term_type f (in_term change t) ≡ term_type f t
    same_type f (entity n) = ap (λ name. some (types.entity (some (simple_name name)))) (keeps.names n)
    same_type f (literal l) = ap some (keeps.kinds l)
    same_type f (context_field p) = refl
    same_type f (scope_field p) = refl
    same_type f (var v) = refl
    same_type f wildcard = refl
    same_type f (array ts) = ap (λ us. some (array_of us)) (same_types ts)
    same_type f (aggregate a) = refl
    same_type f (tree.arith op l r) = refl
    same_type f sigil = refl

    same_types : (ts : Terms) → element_types (in_terms change ts) ≡ element_types ts
    same_types nil = refl
    same_types (cons t ts) = ap₂ ◌∷◌ (same_type none t) (same_types ts)

  -- ---- the rules of a check

  module _ (f : Facts) where
    same_leaves : (t : Term) (at : Span) → leaf_breaches f (in_term change t) at ≡ leaf_breaches f t at
    unfolding in_term leaf_breaches
    same_leaves (entity n) at = ap (λ o. not_long_here o at) (same_type (some f) (entity n))
    same_leaves (literal l) at = ap (λ o. not_long_here o at) (same_type (some f) (literal l))
    same_leaves (context_field p) at = refl
    same_leaves (scope_field p) at = refl
    same_leaves (var v) at = refl
    same_leaves wildcard at = refl
    same_leaves (array ts) at = ap (λ o. not_long_here o at) (same_type (some f) (array ts))
    same_leaves (aggregate a) at = refl
    same_leaves (tree.arith op l r) at = ap₂ ◌++◌ (same_leaves l at) (same_leaves r at)
    same_leaves sigil at = refl

    same_arithmetic : (t : Term) (at : Span) → arithmetic_breaches f (in_term change t) at ≡ arithmetic_breaches f t at
    unfolding in_term arithmetic_breaches
    same_arithmetic (entity n) at = refl
    same_arithmetic (literal l) at = refl
    same_arithmetic (context_field p) at = refl
    same_arithmetic (scope_field p) at = refl
    same_arithmetic (var v) at = refl
    same_arithmetic wildcard at = refl
    same_arithmetic (array ts) at = refl
    same_arithmetic (aggregate a) at = refl
    same_arithmetic (tree.arith op l r) at = same_leaves (tree.arith op l r) at
    same_arithmetic sigil at = refl

    same_arguments : (name : List ℕ) (action : Option Action) (args : Arguments) (own : Span) → argument_breaches f name action (in_arguments change args) own ≡ argument_breaches f name action args own
    unfolding in_arguments argument_breaches
    same_arguments name action no_argument own = refl
    same_arguments name action (argument param field value rest) own =
        ap₂ ◌++◌ (ap (λ o. both (context_type_by f.vocabulary action field) o (argument_breach param name) own) (same_type (some f) value)) (same_arguments name action rest own)

    same_node : (c : Condition) → node_breaches f (changed change c) ≡ node_breaches f c
    unfolding changed node_breaches
    same_node (one k at c) = refl
    same_node (two k at l r) = refl
    same_node (predicate at own ns act args) = same_arguments act (predicate_action f.schema ns act) args own
    same_node (comparison at op l r) =
        ap₂ ◌++◌ (ap₂ ◌++◌ (same_arithmetic l at) (same_arithmetic r at))
        (ap₂ (λ t u. both t u (operands_by f.profile (ordering op)) at) (same_type (some f) l) (same_type (some f) r))
    same_node (exists at b c) = refl
    same_node (tp at s) = refl
    same_node (opaque at) = refl

  module _ (k : Choices) (s : Schema) (c : Condition) (scope : Scope) where
    same_at : (a : Option Action) (x : Scoped) → breaches_at dated k.profile s scope a (changed_in change x) ≡ breaches_at dated k.profile s scope a x
    same_at a x = same_node (facts_among dated k.profile s scope a x.around) x.node

    same_reached : (a : Option Action) → gather (breaches_at dated k.profile s scope a) (nodes_by k.binding (changed change c)) ≡ gather (breaches_at dated k.profile s scope a) (nodes_by k.binding c)
    same_reached a = all_changed change (breaches_at dated k.profile s scope a) (same_at a) k.binding c

    same_under : (t : Target) → breaches_under k s (changed change c) scope t ≡ breaches_under k s c scope t
    unfolding breaches_under_by
    same_under t = go (find_action s t.namespace t.id)
      where
        broken : Condition → Option Action → List Breach
        broken d o = gather (breaches_at dated k.profile s scope o) (nodes_by k.binding d)

        go : (o : Option Action) → maybe (broken (changed change c) none) (λ a. cond (admits_any_env s scope a) (broken (changed change c) (some a)) []) o ≡ maybe (broken c none) (λ a. cond (admits_any_env s scope a) (broken c (some a)) []) o
        go none = same_reached none
        go (some a) = ap (λ bs. cond (admits_any_env s scope a) bs []) (same_reached (some a))

    same_visits : (t : Target) → visits_under k s (changed change c) scope t ≡ visits_under k s c scope t
    unfolding visits_under_by
    same_visits t =
        ap (λ visits. cond (is_checked s scope t) visits [])
        (each_changed change (breaches_at dated k.profile s scope (find_action s t.namespace t.id)) (same_at (find_action s t.namespace t.id)) k.binding c)

  same_checked : (k : Choices) (s : Schema) (c : Condition) (ts : Targets) (buffer : List ℕ) → checked k s (changed change c) ts buffer ≡ checked k s c ts buffer
  unfolding checked_by
  same_checked k s c ts buffer =
      λ i. record {
        outcome = ap (λ bs. reported (once [] bs) buffer) (gather_same (same_under k s c ts.scope) ts.list) i;
        visits = ap (begun buffer []) (gather_same (same_visits k s c ts.scope) ts.list) i;
      }

  -- ---- the summand rule

  module _ (b : Binding) (bs : List Binder) where
    same_aggregate : (a : Aggregate) → aggregate_breaches b bs (in_aggregate change a) ≡ aggregate_breaches b bs a
    unfolding in_aggregate aggregate_breaches
    same_aggregate (sum at (named name) own body) = refl
    same_aggregate (sum at param_ref own body) = refl
    same_aggregate (sum at binder_ref own body) = refl
    same_aggregate (count at own body) = refl
    same_aggregate (call at) = refl

    mutual
      unfolding in_term in_terms term_breaches terms_breaches

      same_term : (t : Term) → term_breaches b bs (in_term change t) ≡ term_breaches b bs t
      same_term (entity n) = refl
      same_term (literal l) = refl
      same_term (context_field p) = refl
      same_term (scope_field p) = refl
      same_term (var v) = refl
      same_term wildcard = refl
      same_term (array ts) = same_terms ts
      same_term (aggregate a) = same_aggregate a
      same_term (tree.arith op l r) = ap₂ ◌++◌ (same_term l) (same_term r)
      same_term sigil = refl

      same_terms : (ts : Terms) → terms_breaches b bs (in_terms change ts) ≡ terms_breaches b bs ts
      same_terms nil = refl
      same_terms (cons t ts) = ap₂ ◌++◌ (same_term t) (same_terms ts)

    same_summed : (args : Arguments) → arguments_breaches b bs (in_arguments change args) ≡ arguments_breaches b bs args
    unfolding in_arguments arguments_breaches
    same_summed no_argument = refl
    same_summed (argument name field value rest) = ap₂ ◌++◌ (same_term value) (same_summed rest)

    same_condition : (c : Condition) → condition_breaches b bs (changed change c) ≡ condition_breaches b bs c
    unfolding changed condition_breaches
    same_condition (one k at c) = refl
    same_condition (two k at l r) = refl
    same_condition (predicate at own ns act args) = same_summed args
    same_condition (comparison at op l r) = ap₂ ◌++◌ (same_term l) (same_term r)
    same_condition (exists at b c) = refl
    same_condition (tp at s) = refl
    same_condition (opaque at) = refl

  same_sums : (b : Binding) (c : Condition) → breaches b (changed change c) ≡ breaches b c
  unfolding breaches
  same_sums b c = all_changed change (λ x. condition_breaches b x.around x.node) (λ x. same_condition b x.around x.node) b c

-- ---- records

-- the answer of a check by what the three records give
answered : ℕ → List ℕ → Got Schema → Got Condition → Got Targets → CheckOutcome
answered rules buffer g h i =
    either (λ r. unvisited r 1 buffer) (λ s. either (λ r. unvisited r 2 buffer) (λ c. either (λ r. unvisited r 3 buffer) (λ ts. checked (choices_of rules) s c ts buffer) i) h) g

module _ (c d : Condition) (n m : ℕ) where
  module _ (equal : (k : Choices) (s : Schema) (ts : Targets) (buffer : List ℕ) → checked k s c ts buffer ≡ checked k s d ts buffer) where
    answered_alike : (rules : ℕ) (buffer : List ℕ) (g : Got Schema) (i : Got Targets) → answered rules buffer g (got c n) i ≡ answered rules buffer g (got d m) i
    unfolding answered
    answered_alike rules buffer (bad r) i = refl
    answered_alike rules buffer (got s l) (bad r) = refl
    answered_alike rules buffer (got s l) (got ts k) = equal (choices_of rules) s ts buffer

-- a record and the condition that stands in it
record ReadAs (s : List ℕ) : Type 0 where
  end : ℕ
  reads : whole condition_record s ≡ got (record_in s) end

read : (s : List ℕ) → is_record s ≡ true → ReadAs s
unfolding record_in
read s is = let x = accept (whole condition_record s) is in record { end = x.place; reads = x.read ∙ ap (λ c. got c x.place) (sym (has_value _ x.read)) }

-- two accepted records whose conditions give the same answers
module _ (a b : List ℕ) (is_a : is_record a ≡ true) (is_b : is_record b ≡ true)
    (checks : (k : Choices) (s : Schema) (ts : Targets) (buffer : List ℕ) → checked k s (record_in a) ts buffer ≡ checked k s (record_in b) ts buffer)
    (summed : (binding : Binding) → breaches binding (record_in a) ≡ breaches binding (record_in b)) where
  checks_alike : (rules : ℕ) (schema_bytes target_bytes buffer : List ℕ) → check_with rules schema_bytes a target_bytes buffer ≡ check_with rules schema_bytes b target_bytes buffer
  unfolding check_with_by answered
  checks_alike rules schema_bytes target_bytes buffer =
      ap (λ h. answered rules buffer (whole schema_record schema_bytes) h (whole target_record target_bytes)) (read a is_a).reads
      ∙ answered_alike (record_in a) (record_in b) (read a is_a).end (read b is_b).end checks rules buffer (whole schema_record schema_bytes) (whole target_record target_bytes)
      ∙ ap (λ h. answered rules buffer (whole schema_record schema_bytes) h (whole target_record target_bytes)) (sym (read b is_b).reads)

  sums_alike : (rules : ℕ) (buffer : List ℕ) → sums_with rules a buffer ≡ sums_with rules b buffer
  unfolding sums_with
  sums_alike rules buffer = rw ((read a is_a).reads, (read b is_b).reads) (ap (λ bs. reported bs buffer) (summed (binding_of rules)))

  records_alike : Alike a b
  records_alike = record { checks = checks_alike; sums = sums_alike }

pub unseen : Unseen
unseen change keeps a b is_a is_b same =
    records_alike a b is_a is_b
    (λ p s ts buffer. sym (same_checked change keeps p s (record_in a) ts buffer) ∙ ap (λ c. checked p s c ts buffer) same ∙ same_checked change keeps p s (record_in b) ts buffer)
    (λ binding. sym (same_sums change keeps binding (record_in a)) ∙ ap (breaches binding) same ∙ same_sums change keeps binding (record_in b))

pub changed_once : ChangedOnce
changed_once change keeps a b is_a is_b same =
    records_alike a b is_a is_b
    (λ p s ts buffer. sym (same_checked change keeps p s (record_in a) ts buffer) ∙ ap (λ c. checked p s c ts buffer) (sym same))
    (λ binding. sym (same_sums change keeps binding (record_in a)) ∙ ap (breaches binding) (sym same))

-- ---- the listing

module _ (a b : List ℕ) (is_a : is_record a ≡ true) (is_b : is_record b ≡ true) where
  listed_alike : ((period : ℕ) → entries period (record_in a) ≡ entries period (record_in b)) → ListedAlike a b
  unfolding windows swept
  listed_alike same period buffer = rw ((read a is_a).reads, (read b is_b).reads, same period)

pub unlisted : Unlisted
unlisted change keeps a b is_a is_b same =
    listed_alike a b is_a is_b λ period.
    sym (same_entries change keeps period (record_in a)) ∙ ap (entries period) same ∙ same_entries change keeps period (record_in b)

pub listed_once : ListedOnce
listed_once change keeps a b is_a is_b same =
    listed_alike a b is_a is_b λ period.
    sym (same_entries change keeps period (record_in a)) ∙ ap (entries period) (sym same)
