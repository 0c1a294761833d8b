-- Where the flat check and the own-body check are equal. Assumes nothing.
use mathlib.Core.Path.{◌≡◌, refl, sym, ap, ap₂, ◌∙◌}
use mathlib.Core.Bool.{true, cond, false≢true}
use mathlib.Core.Logic.{inl}
use mathlib.Core.List.{List, [], ◌∷◌, ◌++◌, append-nil}
use mathlib.Core.Option.{Option, none, some}
use Prim.Native.Nat.{ℕ}
use Rattle.names.specs.Lists.{maybe, gather, every}
use Rattle.names.specs.Laws.Lists.{gather_append}
use Rattle.names.specs.Laws.Names.{and_left, and_right}
use Rattle.names.specs.Laws.Readers.{is_accepted, has_value}
use Rattle.names.specs.Fields.{Got, got, bad, either, whole}
use Rattle.types.specs.Types.{dated, Profile}
use Rattle.schema.specs.Schema.{Schema, Action, schema_record}
use Rattle.schema.specs.Find.{find_action}
use Rattle.targets.specs.Targets.{Target, Targets, Scope, target_record}
use Rattle.resolution.specs.Resolution.{admits_any_env, predicate_action, context_type}
use Rattle.condition.specs.Condition as tree
use Rattle.condition.specs.Condition.{Condition, Term, Terms, Arguments, Aggregate, Binder, Slot, Span, named, param_ref, binder_ref, one, two, predicate, comparison, exists, tp, opaque, no_argument, argument, entity, literal, context_field, scope_field, var, wildcard, array, aggregate, sigil, nil, cons, sum, count, call, condition_record}
use Rattle.condition.specs.Walk.{operand_aggregates, operand_binders, declared_by, reached, declares, binders, last_named}
use Rattle.condition.specs.Places.{record_in}
use Rattle.walk.specs.Scopes.{Scoped, under, scoped, Binding, flat, own, binding_of, nodes_by}
use Rattle.walk.specs.Laws.Nodes.{scoped_nodes}
use Rattle.walk.specs.Laws.Named.{last_append}
use Rattle.terms.specs.Terms.{Facts, facts_among, annotation_type, input_type, var_type, root_type, scope_field_type, term_type}
use Rattle.rules.specs.Rules.{both, ordering, operands_by, not_long_here, argument_breach, timepoint_breach, argument_breaches, leaf_breaches, arithmetic_breaches, timepoint_breaches, node_breaches}
use Rattle.reports.specs.Reports.{Outcome, once, refusal, reported}
use Rattle.reports.specs.Pairs.{◌∈◌}
use Rattle.reports.specs.Laws.Sets.{in_left, in_right}
use Rattle.typecheck.specs.Check.{profile_of, choices_of, breaches_at, breaches_under_by, breaches_under, is_checked, visits_under_by, visits_under, begun, CheckOutcome, checked_by, checked, check_with_by, unvisited}
use Rattle.sums.specs.Sums.{summand_breach, aggregate_breaches, term_breaches, terms_breaches, arguments_breaches, condition_breaches, breaches, sums_with}
use Rattle.claims.specs.OwnBodies.{covered, each_once, operand_uses, argument_use, argument_uses, slot_uses, uses, uses_in_bodies, aggregates_in, aggregates_among, argument_aggregates, aggregates_of, is_none, bare_arguments, none_in_arguments, bare_arrays, bare_operands, none_in_arrays, summand_covered, summands_in_bodies, all_binders, FourHold, ByUses, SummandBinder, ChecksAlike, SumsAlike, CheckRunsAlike, SumRunsAlike, choices, Request}
use Rattle.claims.proofs.BareArrays.{read_bare}
use Rattle.claims.proofs.Scoping.{◌⊆◌, joined_in, every_in, every_weaker, map_within, gather_in, gather_within, around_passed, seen_alike, gathered_alike, same_last, once_passed, covered_passed}

-- ---- what a node breaks depends on its binders by the last one of each name that it uses

module _ (p : Profile) (s : Schema) (scope : Scope) (a : Option Action) (bs cs : List Binder) where
  abbrev f : Facts
  f = facts_among dated p s scope a bs

  abbrev g : Facts
  g = facts_among dated p s scope a cs

  abbrev Agree : List (List ℕ) → Type 0
  Agree names = (v : List ℕ) → v ∈ names → last_named v bs ≡ last_named v cs

  first_part : (xs ys : List (List ℕ)) → Agree (xs ++ ys) → Agree xs
  first_part xs ys h v i = h v (in_left v xs ys i)

  second_part : (xs ys : List (List ℕ)) → Agree (xs ++ ys) → Agree ys
  second_part xs ys h v i = h v (in_right v xs ys i)

  same_var : (v : List ℕ) → last_named v bs ≡ last_named v cs → var_type f v ≡ var_type g v
  unfolding var_type
  same_var v e = ap (maybe (input_type a v) (λ x. some (annotation_type x))) e

  same_scope : (path : List (List ℕ)) → scope_field_type f path ≡ scope_field_type g path
  unfolding scope_field_type root_type
  same_scope path = go a path
    where
      go : (o : Option Action) (w : List (List ℕ)) → maybe none (λ x. root_type f x w) o ≡ maybe none (λ x. root_type g x w) o
      go none w = refl
      go (some x) [] = refl
      go (some x) (root ∷ tail) = refl

  same_type : (t : Term) → Agree (argument_use t) → term_type (some f) t ≡ term_type (some g) t
  unfolding term_type
  same_type (entity n) h = refl
  same_type (literal l) h = refl
  same_type (context_field path) h = refl
  same_type (scope_field path) h = same_scope path
  same_type (var v) h = same_var v (h v (inl refl))
  same_type wildcard h = refl
  same_type (array ts) h = refl
  same_type (aggregate x) h = refl
  same_type (tree.arith op l r) h = refl
  same_type sigil h = refl

  operand_argument : (t : Term) → Agree (operand_uses t) → Agree (argument_use t)
  unfolding operand_uses
  operand_argument (entity n) h v i = absurd i
  operand_argument (literal l) h v i = absurd i
  operand_argument (context_field path) h v i = absurd i
  operand_argument (scope_field path) h v i = absurd i
  operand_argument (var w) h v i = h v i
  operand_argument wildcard h v i = absurd i
  operand_argument (array ts) h v i = absurd i
  operand_argument (aggregate x) h v i = absurd i
  operand_argument (tree.arith op l r) h v i = absurd i
  operand_argument sigil h v i = absurd i

  same_operand : (t : Term) → Agree (operand_uses t) → term_type (some f) t ≡ term_type (some g) t
  same_operand t h = same_type t (operand_argument t h)

  same_arguments : (name : List ℕ) (action : Option Action) (args : Arguments) (at : Span) → Agree (argument_uses args) → argument_breaches f name action args at ≡ argument_breaches g name action args at
  unfolding argument_breaches argument_uses
  same_arguments name action no_argument at h = refl
  same_arguments name action (argument param field value rest) at h =
      ap₂ ◌++◌ (ap (λ o. both (context_type action field) o (argument_breach param name) at) (same_type value (first_part (argument_use value) (argument_uses rest) h)))
      (same_arguments name action rest at (second_part (argument_use value) (argument_uses rest) h))

  same_leaves : (t : Term) (at : Span) → Agree (operand_uses t) → leaf_breaches f t at ≡ leaf_breaches g t at
  unfolding leaf_breaches operand_uses
  same_leaves (entity n) at h = ap (λ o. not_long_here o at) (same_operand (entity n) h)
  same_leaves (literal l) at h = ap (λ o. not_long_here o at) (same_operand (literal l) h)
  same_leaves (context_field path) at h = ap (λ o. not_long_here o at) (same_operand (context_field path) h)
  same_leaves (scope_field path) at h = ap (λ o. not_long_here o at) (same_operand (scope_field path) h)
  same_leaves (var v) at h = ap (λ o. not_long_here o at) (same_operand (var v) h)
  same_leaves wildcard at h = refl
  same_leaves (array ts) at h = ap (λ o. not_long_here o at) (same_operand (array ts) h)
  same_leaves (aggregate x) at h = refl
  same_leaves (tree.arith op l r) at h = ap₂ ◌++◌ (same_leaves l at (first_part (operand_uses l) (operand_uses r) h)) (same_leaves r at (second_part (operand_uses l) (operand_uses r) h))
  same_leaves sigil at h = refl

  same_arithmetic : (t : Term) (at : Span) → Agree (operand_uses t) → arithmetic_breaches f t at ≡ arithmetic_breaches g t at
  unfolding arithmetic_breaches
  same_arithmetic (entity n) at h = refl
  same_arithmetic (literal l) at h = refl
  same_arithmetic (context_field path) at h = refl
  same_arithmetic (scope_field path) at h = refl
  same_arithmetic (var v) at h = refl
  same_arithmetic wildcard at h = refl
  same_arithmetic (array ts) at h = refl
  same_arithmetic (aggregate x) at h = refl
  same_arithmetic (tree.arith op l r) at h = same_leaves (tree.arith op l r) at h
  same_arithmetic sigil at h = refl

  same_timepoint : (x : Slot) (at : Span) → Agree (slot_uses x) → timepoint_breaches f x at ≡ timepoint_breaches g x at
  unfolding timepoint_breaches
  same_timepoint (named name) at h = ap (λ o. timepoint_breach name o at) (same_var name (h name (inl refl)))
  same_timepoint param_ref at h = refl
  same_timepoint binder_ref at h = refl

  same_node : (x : Condition) → Agree (uses x) → node_breaches f x ≡ node_breaches g x
  unfolding node_breaches uses
  same_node (one k at c) h = refl
  same_node (two k at l r) h = refl
  same_node (predicate at span ns act args) h = same_arguments act (predicate_action s ns act) args span h
  same_node (comparison at op l r) h =
      let left : Agree (operand_uses l) = first_part (operand_uses l) (operand_uses r) h in
      let right : Agree (operand_uses r) = second_part (operand_uses l) (operand_uses r) h in
      ap₂ ◌++◌ (ap₂ ◌++◌ (same_arithmetic l at left) (same_arithmetic r at right))
      (ap₂ (λ t u. both t u (operands_by p (ordering op)) at) (same_operand l left) (same_operand r right))
  same_node (exists at b c) h = refl
  same_node (tp at x) h = same_timepoint x at h
  same_node (opaque at) h = refl

pub by_uses : ByUses
by_uses p s scope a bs cs x h = same_node p s scope a bs cs x h

-- ---- the check

module _ (c : Condition) (each : each_once (binders c) ≡ true) (inside : uses_in_bodies (binders c) c ≡ true) where
  -- a node's names have their last binders alike
  looked_alike : (n : Scoped) → n ∈ scoped [] c → (v : List ℕ) → v ∈ uses n.node → last_named v n.around ≡ last_named v (binders c)
  unfolding uses_in_bodies
  looked_alike n i v j =
      let here : every (covered (binders c) n.around) (uses n.node) ≡ true = every_in (λ m. every (covered (binders c) m.around) (uses m.node)) (scoped [] c) inside n i in
      same_last (binders c) n.around each (around_passed c n i) v (every_in (covered (binders c) n.around) (uses n.node) here v j)

  module _ (p : Profile) (s : Schema) (scope : Scope) where
    node_alike : (a : Option Action) (n : Scoped) → n ∈ scoped [] c → breaches_at dated p s scope a n ≡ breaches_at dated p s scope a (under (binders c) n.node)
    node_alike a n i = same_node p s scope a n.around (binders c) n.node (looked_alike n i)

    pub breaches_alike : (t : Target) → breaches_under (choices own p) s c scope t ≡ breaches_under (choices flat p) s c scope t
    unfolding breaches_under_by
    breaches_alike t = go (find_action s t.namespace t.id)
      where
        found : (a : Option Action) → gather (breaches_at dated p s scope a) (nodes_by own c) ≡ gather (breaches_at dated p s scope a) (nodes_by flat c)
        found a = gathered_alike (breaches_at dated p s scope a) (breaches_at dated p s scope a) c (node_alike a)

        go : (o : Option Action) → maybe (gather (breaches_at dated p s scope none) (nodes_by own c)) (λ a. cond (admits_any_env s scope a) (gather (breaches_at dated p s scope (some a)) (nodes_by own c)) []) o
            ≡ maybe (gather (breaches_at dated p s scope none) (nodes_by flat c)) (λ a. cond (admits_any_env s scope a) (gather (breaches_at dated p s scope (some a)) (nodes_by flat c)) []) o
        go none = found none
        go (some a) = ap (λ xs. cond (admits_any_env s scope a) xs []) (found (some a))

    pub visits_alike : (t : Target) → visits_under (choices own p) s c scope t ≡ visits_under (choices flat p) s c scope t
    unfolding visits_under_by
    visits_alike t =
        let a : Option Action = find_action s t.namespace t.id in
        ap (λ xs. cond (is_checked s scope t) xs []) (seen_alike (breaches_at dated p s scope a) (breaches_at dated p s scope a) c (node_alike a))

pub checks_alike : ChecksAlike
unfolding checked_by
checks_alike c each inside p s ts buffer =
    λ i. record {
      outcome = ap (λ bs. reported (once [] bs) buffer) (gather_in _ _ ts.list (λ t i. breaches_alike c each inside p s ts.scope t)) i;
      visits = ap (begun buffer []) (gather_in _ _ ts.list (λ t i. visits_alike c each inside p s ts.scope t)) i;
    }

-- ---- Sums, by the aggregates that it looks at

module _ (binding : Binding) (bs : List Binder) where
  mutual
    unfolding term_breaches terms_breaches aggregates_in aggregates_among gather

    of_term : (t : Term) → term_breaches binding bs t ≡ gather (aggregate_breaches binding bs) (aggregates_in t)
    of_term (entity n) = refl
    of_term (literal l) = refl
    of_term (context_field p) = refl
    of_term (scope_field p) = refl
    of_term (var v) = refl
    of_term wildcard = refl
    of_term (array ts) = of_terms ts
    of_term (aggregate a) = sym (append-nil (aggregate_breaches binding bs a))
    of_term (tree.arith op l r) = ap₂ ◌++◌ (of_term l) (of_term r) ∙ sym (gather_append (aggregate_breaches binding bs) (aggregates_in l) (aggregates_in r))
    of_term sigil = refl

    of_terms : (ts : Terms) → terms_breaches binding bs ts ≡ gather (aggregate_breaches binding bs) (aggregates_among ts)
    of_terms nil = refl
    of_terms (cons t ts) = ap₂ ◌++◌ (of_term t) (of_terms ts) ∙ sym (gather_append (aggregate_breaches binding bs) (aggregates_in t) (aggregates_among ts))

  of_arguments : (args : Arguments) → arguments_breaches binding bs args ≡ gather (aggregate_breaches binding bs) (argument_aggregates args)
  unfolding arguments_breaches argument_aggregates gather
  of_arguments no_argument = refl
  of_arguments (argument name field value rest) = ap₂ ◌++◌ (of_term value) (of_arguments rest) ∙ sym (gather_append (aggregate_breaches binding bs) (aggregates_in value) (argument_aggregates rest))

  of_node : (x : Condition) → condition_breaches binding bs x ≡ gather (aggregate_breaches binding bs) (aggregates_of x)
  unfolding condition_breaches aggregates_of gather
  of_node (one k at c) = refl
  of_node (two k at l r) = refl
  of_node (predicate at span ns act args) = of_arguments args
  of_node (comparison at op l r) = ap₂ ◌++◌ (of_term l) (of_term r) ∙ sym (gather_append (aggregate_breaches binding bs) (aggregates_in l) (aggregates_in r))
  of_node (exists at b c) = refl
  of_node (tp at s) = refl
  of_node (opaque at) = refl

none_of : {A : Type 0} (xs : List A) → is_none xs ≡ true → xs ≡ []
none_of [] e = refl
none_of (x ∷ xs) e = absurd (false≢true e)

-- an operand's aggregates, where its arrays hold none
bare_operand : (t : Term) → bare_arrays t ≡ true → aggregates_in t ≡ operand_aggregates t
unfolding bare_arrays aggregates_in operand_aggregates
bare_operand (entity n) h = refl
bare_operand (literal l) h = refl
bare_operand (context_field p) h = refl
bare_operand (scope_field p) h = refl
bare_operand (var v) h = refl
bare_operand wildcard h = refl
bare_operand (array ts) h = none_of (aggregates_among ts) h
bare_operand (aggregate a) h = refl
bare_operand (tree.arith op l r) h = ap₂ ◌++◌ (bare_operand l (and_left (bare_arrays l) (bare_arrays r) h)) (bare_operand r (and_right (bare_arrays l) (bare_arrays r) h))
bare_operand sigil h = refl

-- an aggregate's own list is among the binders that its node declares
node_declares : (x : Condition) → bare_arguments x ≡ true → bare_operands x ≡ true → (a : Aggregate) → a ∈ aggregates_of x → declared_by a ⊆ declares x
unfolding bare_arguments bare_operands aggregates_of declares operand_binders
node_declares (one k at c) h o a i = absurd i
node_declares (two k at l r) h o a i = absurd i
node_declares (predicate at span ns act args) h o a i = absurd (rw (none_of (argument_aggregates args) h) at i)
node_declares (comparison at op l r) h o a i =
    let e : aggregates_in l ++ aggregates_in r ≡ operand_aggregates l ++ operand_aggregates r =
    ap₂ ◌++◌ (bare_operand l (and_left (bare_arrays l) (bare_arrays r) o)) (bare_operand r (and_right (bare_arrays l) (bare_arrays r) o)) in
    let j : declared_by a ⊆ gather declared_by (operand_aggregates l ++ operand_aggregates r) = gather_within declared_by (operand_aggregates l ++ operand_aggregates r) a (rw e at i) in
    rw gather_append at j
node_declares (exists at b c) h o a i = absurd i
node_declares (tp at s) h o a i = absurd i
node_declares (opaque at) h o a i = absurd i

module _ (c : Condition) (each : each_once (binders c) ≡ true) (no_args : none_in_arguments c ≡ true) (no_arrays : none_in_arrays c ≡ true) (inside : summands_in_bodies (binders c) c ≡ true) where
  module _ (n : Scoped) (i : n ∈ scoped [] c) where
    is_reached : n.node ∈ reached c
    is_reached = rw (scoped_nodes [] c) at (map_within (λ m. m.node) (scoped [] c) n i)

    list_passed : (a : Aggregate) → a ∈ aggregates_of n.node → declared_by a ⊆ binders c
    unfolding none_in_arguments none_in_arrays binders
    list_passed a j k l =
        gather_within declares (reached c) n.node is_reached k
        (node_declares n.node (every_in bare_arguments (reached c) no_args n.node is_reached) (every_in bare_operands (reached c) no_arrays n.node is_reached) a j k l)

    summand_covered_lem : (a : Aggregate) → a ∈ aggregates_of n.node → summand_covered (binders c) n.around a ≡ true
    unfolding summands_in_bodies
    summand_covered_lem a j =
        every_in (summand_covered (binders c) n.around) (aggregates_of n.node)
        (every_in (λ m. every (summand_covered (binders c) m.around) (aggregates_of m.node)) (scoped [] c) inside n i) a j

    summand_alike : (a : Aggregate) → a ∈ aggregates_of n.node → aggregate_breaches own n.around a ≡ aggregate_breaches flat (binders c) a
    unfolding aggregate_breaches declared_by
    summand_alike a j = go a (list_passed a j) (summand_covered_lem a j)
      where
        go : (x : Aggregate) → declared_by x ⊆ binders c → summand_covered (binders c) n.around x ≡ true → aggregate_breaches own n.around x ≡ aggregate_breaches flat (binders c) x
        go (sum at (named name) list body) p k =
            ap (λ o. summand_breach name o at) (same_last (binders c) (n.around ++ list) each (joined_in n.around list (binders c) (around_passed c n i) p) name k)
        go (sum at param_ref list body) p k = refl
        go (sum at binder_ref list body) p k = refl
        go (count at list body) p k = refl
        go (call at) p k = refl

    sums_node : condition_breaches own n.around n.node ≡ condition_breaches flat (binders c) n.node
    sums_node =
        of_node own n.around n.node
        ∙ gather_in (aggregate_breaches own n.around) (aggregate_breaches flat (binders c)) (aggregates_of n.node) summand_alike
        ∙ sym (of_node flat (binders c) n.node)

pub summand_binder : SummandBinder
summand_binder name bs list = last_append name bs list

pub sums_alike : SumsAlike
unfolding breaches
sums_alike c each no_args no_arrays inside =
    gathered_alike (λ n. condition_breaches own n.around n.node) (λ n. condition_breaches flat n.around n.node) c (sums_node c each no_args no_arrays inside)

-- ---- the runs

-- by any two ways of binding a name
either_check : (c : Condition) → each_once (binders c) ≡ true → uses_in_bodies (binders c) c ≡ true → (b d : Binding) (p : Profile) (s : Schema) (ts : Targets) (buffer : List ℕ)
    → checked (choices b p) s c ts buffer ≡ checked (choices d p) s c ts buffer
either_check c each inside flat flat p s ts buffer = refl
either_check c each inside flat own p s ts buffer = sym (checks_alike c each inside p s ts buffer)
either_check c each inside own flat p s ts buffer = checks_alike c each inside p s ts buffer
either_check c each inside own own p s ts buffer = refl

either_sum : (c : Condition) → breaches own c ≡ breaches flat c → (b d : Binding) → breaches b c ≡ breaches d c
either_sum c e flat flat = refl
either_sum c e flat own = sym e
either_sum c e own flat = e
either_sum c e own own = refl

pub check_runs_alike : CheckRunsAlike
unfolding check_with_by record_in
check_runs_alike condition_bytes each inside rules also same schema_bytes target_bytes buffer = go (whole schema_record schema_bytes) (whole condition_record condition_bytes) refl (whole target_record target_bytes)
  where
    answer : ℕ → Got Schema → Got Condition → Got Targets → CheckOutcome
    answer k s c ts = either (λ r. unvisited r 1 buffer) (λ x. either (λ r. unvisited r 2 buffer) (λ y. either (λ r. unvisited r 3 buffer) (λ z. checked (choices_of k) x y z buffer) ts) c) s

    go : (s : Got Schema) (c : Got Condition) → whole condition_record condition_bytes ≡ c → (ts : Got Targets) → answer rules s c ts ≡ answer also s c ts
    go (bad r) c e ts = refl
    go (got s n) (bad r) e ts = refl
    go (got s n) (got c m) e (bad r) = refl
    go (got s n) (got c m) e (got ts k) =
        let z : record_in condition_bytes ≡ c = has_value _ e in
        ap (λ (p : Profile). checked (choices (binding_of rules) p) s c ts buffer) same
        ∙ either_check c (rw z at each) (rw z at inside) (binding_of rules) (binding_of also) (profile_of also) s ts buffer

pub sum_runs_alike : SumRunsAlike
unfolding sums_with record_in
sum_runs_alike condition_bytes each no_args inside rules also buffer = go (whole condition_record condition_bytes) refl
  where
    answer : ℕ → Got Condition → Outcome
    answer k g = either (λ r. refusal r 2 buffer) (λ c. reported (breaches (binding_of k) c) buffer) g

    go : (g : Got Condition) → whole condition_record condition_bytes ≡ g → answer rules g ≡ answer also g
    go (bad r) e = refl
    go (got c n) e =
        let z : record_in condition_bytes ≡ c = has_value _ e in
        let bare : none_in_arrays (record_in condition_bytes) ≡ true = read_bare condition_bytes (is_accepted e) in
        ap (λ bs. reported bs buffer) (either_sum c (sums_alike c (rw z at each) (rw z at no_args) (rw z at bare) (rw z at inside)) (binding_of rules) (binding_of also))

-- ---- the request, of all binders

module _ (s : Schema) (ts : Targets) (c : Condition) (four : FourHold s ts c) where
  uses_passed : uses_in_bodies (binders c) c ≡ true
  unfolding uses_in_bodies
  uses_passed =
      every_weaker (λ n. every (covered (all_binders c) n.around) (uses n.node)) (λ n. every (covered (binders c) n.around) (uses n.node))
      (λ n. every_weaker (covered (all_binders c) n.around) (covered (binders c) n.around) (covered_passed c n.around) (uses n.node))
      (scoped [] c) (and_left (uses_in_bodies (all_binders c) c) (summands_in_bodies (all_binders c) c) four.inside)

  summand_passed : (around : List Binder) (a : Aggregate) → summand_covered (all_binders c) around a ≡ true → summand_covered (binders c) around a ≡ true
  summand_passed around (sum at (named name) list body) h = covered_passed c (around ++ list) name h
  summand_passed around (sum at param_ref list body) h = refl
  summand_passed around (sum at binder_ref list body) h = refl
  summand_passed around (count at list body) h = refl
  summand_passed around (call at) h = refl

  summands_passed : summands_in_bodies (binders c) c ≡ true
  unfolding summands_in_bodies
  summands_passed =
      every_weaker (λ n. every (summand_covered (all_binders c) n.around) (aggregates_of n.node)) (λ n. every (summand_covered (binders c) n.around) (aggregates_of n.node))
      (λ n. every_weaker (summand_covered (all_binders c) n.around) (summand_covered (binders c) n.around) (summand_passed n.around) (aggregates_of n.node))
      (scoped [] c) (and_right (uses_in_bodies (all_binders c) c) (summands_in_bodies (all_binders c) c) four.inside)

pub request : Request
unfolding record_in
request schema_bytes condition_bytes target_bytes s c ts taken four =
    let z : c ≡ record_in condition_bytes = sym (has_value _ taken.condition) in
    let each : each_once (binders c) ≡ true = once_passed c four.once in
    let no_args : none_in_arguments c ≡ true = four.outside in
    let used : uses_in_bodies (binders c) c ≡ true = uses_passed s ts c four in
    let summed : summands_in_bodies (binders c) c ≡ true = summands_passed s ts c four in
    record {
      checks = λ rules also same buffer. check_runs_alike condition_bytes (rw z at each) (rw z at used) rules also same schema_bytes target_bytes buffer;
      sums = sum_runs_alike condition_bytes (rw z at each) (rw z at no_args) (rw z at summed);
    }
