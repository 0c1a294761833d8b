-- The words `datetime` and `duration`, and what does not depend on them. Assumes nothing.
use mathlib.Core.Path.{◌≡◌, refl, sym, ap, ap₂, ◌∙◌}
use mathlib.Core.Bool.{Bool, true, false, cond, not, ◌&&◌, ◌||◌, false≢true}
use mathlib.Core.List.{List, [], ◌∷◌, ◌++◌}
use mathlib.Core.Option.{Option, none, some}
use Prim.Native.Nat.{ℕ}
use Rattle.names.specs.Fields.{Got, got, bad, either, whole}
use Rattle.names.specs.Lists.{maybe, first, every, gather}
use Rattle.names.specs.Names.{same, simple_name, last_of}
use Rattle.names.specs.Text.{text}
use Rattle.types.specs.Types as types
use Rattle.types.specs.Types.{Ty, Profile, Vocabulary, scalar, mixed_array, array, datetime, duration, published, dated, time_type, fits, same_type, is_numeric, is_time, are_ordered}
use Rattle.types.specs.Laws.Order.{ordered_before}
use Rattle.schema.specs.Schema.{Schema, Action, EntityType, schema_record, Declared, Attributes, nothing, attribute, long, string, bool, extension, set, any_set, object, entity, several_entities, any_entity, never}
use Rattle.schema.specs.Find.{find_action, find_entity, find_attribute, extension_type, rich_type_by, fields_of}
use Rattle.targets.specs.Targets.{Narrowing, Scope, Target, Targets, target_record}
use Rattle.targets.specs.PathRecord as asked
use Rattle.targets.specs.PathRecord.{Query, Side, path_record, target_at}
use Rattle.resolution.specs.Resolution.{PathEnd, typed, PathResolution, head_missing, nested, type_at_end, descend_by, resolve_in_by, context_path_by, context_type_by, admitted, admits_any_env, projection, unattributed, OnType, on_entity_by, on_types_by, failed, types_of, renderings, agreed, failure, verdict, declared_all, entity_of, scope_type, ScopePath, ambiguous, unknown, scope_path_by, predicate_action}
use Rattle.condition.specs.Condition as condition
use Rattle.condition.specs.Condition.{Condition, Binder, Slot, named, param_ref, binder_ref, Annotation, timepoint, path, Span, Term, Arguments, no_argument, argument, one, two, predicate, comparison, exists, tp, opaque, condition_record}
use Rattle.condition.specs.Walk.{binders, named_here, last_named}
use Rattle.walk.specs.Scopes.{Scoped, nodes_by}
use Rattle.terms.specs.Terms.{Facts, facts_among, other_type, word_type_by, annotation_type_by, field_type_by, input_type_by, var_type, if_resolved, side_type_by, root_type, scope_field_type, literal_type, all_like, array_of, element_types, term_type}
use Rattle.reports.specs.Reports.{Breach, once, refusal, reported}
use Rattle.reports.specs.Pairs.{◌∈◌}
use Rattle.reports.specs.Placed.{placed}
use Rattle.rules.specs.Rules.{both, not_long_here, ordering, operands_by, argument_breach, timepoint_breach, argument_breaches, leaf_breaches, arithmetic_breaches, timepoint_breaches, node_breaches}
use Rattle.typecheck.specs.Check.{Choices, choices_of, breaches_at, breaches_under_by, is_checked, visits_under_by, begun, checked_by, unvisited, check_with_by}
use Rattle.lookup.specs.Lookup.{on_side_by, found_by, output, answered_by, lookup_by}
use Rattle.claims.specs.Times.{is_time_word, no_times_in, no_times_among, no_times, no_time_named, no_times_declared, Reads, AsBefore}
use Rattle.claims.proofs.Scoping.{every_in, every_of, map_in, gather_in, among_passed}

-- ---- what may be missing, and lists

-- what passes a test, where it is there
abbrev passes : {A : Type 0} → (A → Bool) → Option A → Bool
passes p = maybe true p

module _ {A B : Type 0} (p : A → Bool) (b : B) (f g : A → B) (equal : (a : A) → p a ≡ true → f a ≡ g a) where
  maybe_same : (o : Option A) → passes p o ≡ true → maybe b f o ≡ maybe b g o
  maybe_same none h = refl
  maybe_same (some a) h = equal a h

and_left : (a b : Bool) → (a && b) ≡ true → a ≡ true
and_left true b h = refl
and_left false b h = h

and_right : (a b : Bool) → (a && b) ≡ true → b ≡ true
and_right true b h = h
and_right false b h = absurd (false≢true h)

both_true : {a b : Bool} → a ≡ true → b ≡ true → (a && b) ≡ true
both_true e f = rw (e, f)

either_passes : {A : Type 0} (p : A → Bool) (b : Bool) (x : A) (o : Option A) → p x ≡ true → passes p o ≡ true → passes p (cond b (some x) o) ≡ true
either_passes p true x o h k = h
either_passes p false x o h k = k

first_passes : {A : Type 0} (p q : A → Bool) (xs : List A) → every p xs ≡ true → passes p (first q xs) ≡ true
unfolding every first
first_passes p q [] h = refl
first_passes p q (x ∷ xs) h = either_passes p (q x) x (first q xs) (and_left (p x) (every p xs) h) (first_passes p q xs (and_right (p x) (every p xs) h))

gather_same : {A B : Type 0} {f g : A → List B} → ((a : A) → f a ≡ g a) → (xs : List A) → gather f xs ≡ gather g xs
unfolding gather
gather_same e [] = refl
gather_same e (x ∷ xs) = ap₂ ◌++◌ (e x) (gather_same e xs)

-- ---- words

word_same : (w : List ℕ) → not (is_time_word w) ≡ true → time_type dated w ≡ time_type published w
unfolding is_time_word time_type
word_same w h = go (same w (text "datetime")) (same w (text "duration")) h
  where
    go : (a b : Bool) → not (a || b) ≡ true → cond a (some datetime) (cond b (some duration) none) ≡ none
    go true b h = absurd (false≢true h)
    go false true h = absurd (false≢true h)
    go false false h = refl

-- ---- declared types

rich_same : (t : Declared) → no_times_in t ≡ true → rich_type_by dated t ≡ rich_type_by published t
unfolding no_times_in rich_type_by extension_type
rich_same long h = refl
rich_same string h = refl
rich_same bool h = refl
rich_same (extension name) h = rw (word_same (simple_name name) h)
rich_same (set t) h = ap array (rich_same t h)
rich_same any_set h = refl
rich_same (object fields) h = refl
rich_same (entity name) h = refl
rich_same several_entities h = refl
rich_same any_entity h = refl
rich_same never h = refl

fields_pass : (t : Declared) → no_times_in t ≡ true → passes no_times_among (fields_of t) ≡ true
unfolding no_times_in fields_of
fields_pass long h = refl
fields_pass string h = refl
fields_pass bool h = refl
fields_pass (extension name) h = refl
fields_pass (set t) h = refl
fields_pass any_set h = refl
fields_pass (object fields) h = h
fields_pass (entity name) h = refl
fields_pass several_entities h = refl
fields_pass any_entity h = refl
fields_pass never h = refl

attribute_passes : (fields : Attributes) (name : List ℕ) → no_times_among fields ≡ true → passes no_times_in (find_attribute fields name) ≡ true
unfolding no_times_among find_attribute
attribute_passes nothing name h = refl
attribute_passes (attribute n t rest) name h =
    either_passes no_times_in (same n name) t (find_attribute rest name) (and_left (no_times_in t) (no_times_among rest) h) (attribute_passes rest name (and_right (no_times_in t) (no_times_among rest) h))

-- ---- paths

descend_same : (t : Declared) (way : List (List ℕ)) → no_times_in t ≡ true → descend_by dated t way ≡ descend_by published t way
unfolding descend_by
descend_same t [] h = ap PathEnd.resolved (rich_same t h)
descend_same t (segment ∷ rest) h =
    maybe_same no_times_among (PathEnd.non_record segment) _ _
    (λ fields k. maybe_same no_times_in (PathEnd.missing segment) _ _ (λ u l. descend_same u rest l) (find_attribute fields segment) (attribute_passes fields segment k))
    (fields_of t) (fields_pass t h)

resolve_same : (fields : Attributes) (head : List ℕ) (rest : List (List ℕ)) → no_times_among fields ≡ true → resolve_in_by dated fields head rest ≡ resolve_in_by published fields head rest
unfolding resolve_in_by
resolve_same fields head rest h = maybe_same no_times_in head_missing _ _ (λ t k. ap nested (descend_same t rest k)) (find_attribute fields head) (attribute_passes fields head h)

context_path_same : (t : Declared) (way : List (List ℕ)) → no_times_in t ≡ true → context_path_by dated t way ≡ context_path_by published t way
unfolding context_path_by
context_path_same t [] h = refl
context_path_same t (head ∷ rest) h = maybe_same no_times_among head_missing _ _ (λ fields k. resolve_same fields head rest k) (fields_of t) (fields_pass t h)

abbrev action_passes : Action → Bool
action_passes a = no_times_in a.context

abbrev entity_passes : EntityType → Bool
entity_passes e = no_times_among e.attributes

context_same : (action : Option Action) (way : List (List ℕ)) → passes action_passes action ≡ true → context_type_by dated action way ≡ context_type_by published action way
unfolding context_type_by
context_same action way h = maybe_same action_passes none _ _ (λ a k. ap type_at_end (context_path_same a.context way k)) action h

entity_same : (segment : List ℕ) (rest : List (List ℕ)) (e : EntityType) → entity_passes e ≡ true → on_entity_by dated segment rest e ≡ on_entity_by published segment rest e
unfolding on_entity_by
entity_same segment rest e h = maybe_same no_times_in (unattributed segment rest) _ _ (λ t k. descend_same t rest k) (find_attribute e.attributes segment) (attribute_passes e.attributes segment h)

types_same : (segment : List ℕ) (rest : List (List ℕ)) (es : List EntityType) → every entity_passes es ≡ true → on_types_by dated segment rest es ≡ on_types_by published segment rest es
unfolding every on_types_by
types_same segment rest [] h = refl
types_same segment rest (e ∷ es) h =
    ap₂ ◌∷◌ (λ i. record { name = e.name; path = entity_same segment rest e (and_left (entity_passes e) (every entity_passes es) h) i })
    (types_same segment rest es (and_right (entity_passes e) (every entity_passes es) h))

field_same : (name : List ℕ) (t : Declared) → no_times_in t ≡ true → field_type_by dated name t ≡ field_type_by published name t
unfolding field_type_by
field_same name t h =
    maybe_same no_times_among none _ _
    (λ fields k. maybe_same no_times_in none _ _ (λ u l. ap some (rich_same u l)) (find_attribute fields name) (attribute_passes fields name k))
    (fields_of t) (fields_pass t h)

-- ---- annotations

annotation_same : (n : Annotation) → no_time_named n ≡ true → annotation_type_by dated n ≡ annotation_type_by published n
unfolding no_time_named annotation_type_by word_type_by other_type
annotation_same timepoint h = refl
annotation_same (path segments) h = rw (word_same (last_of segments) h)

abbrev binder_passes : Binder → Bool
binder_passes b = no_time_named b.annotation

named_passes : (name : List ℕ) (n : Annotation) (slot : Slot) → no_time_named n ≡ true → passes no_time_named (named_here name n slot) ≡ true
unfolding named_here
named_passes name n (named w) h = either_passes no_time_named (same w name) n none h refl
named_passes name n param_ref h = refl
named_passes name n binder_ref h = refl

last_passes : (name : List ℕ) (bs : List Binder) → every binder_passes bs ≡ true → passes no_time_named (last_named name bs) ≡ true
unfolding every last_named
last_passes name [] h = refl
last_passes name (b ∷ bs) h = go (last_named name bs) (last_passes name bs (and_right (binder_passes b) (every binder_passes bs) h))
  where
    go : (o : Option Annotation) → passes no_time_named o ≡ true → passes no_time_named (maybe (named_here name b.annotation b.slot) some o) ≡ true
    go none k = named_passes name b.annotation b.slot (and_left (binder_passes b) (every binder_passes bs) h)
    go (some n) k = k

-- ---- what a schema without the two words has

module _ (s : Schema) (h : no_times s ≡ true) where
  entities_pass : every entity_passes s.entities ≡ true
  unfolding no_times
  entities_pass = and_left (every entity_passes s.entities) (every action_passes s.actions) h

  action_passes_lem : (namespace id : List ℕ) → passes action_passes (find_action s namespace id) ≡ true
  unfolding no_times find_action
  action_passes_lem namespace id = first_passes action_passes _ s.actions (and_right (every entity_passes s.entities) (every action_passes s.actions) h)

  entity_passes_lem : (name : List ℕ) → passes entity_passes (find_entity s name) ≡ true
  unfolding find_entity
  entity_passes_lem name = first_passes entity_passes _ s.entities entities_pass

  all_pass : (names : List (List ℕ)) → passes (every entity_passes) (declared_all s names) ≡ true
  unfolding declared_all every
  all_pass [] = refl
  all_pass (n ∷ rest) = go (find_entity s n) (declared_all s rest) (entity_passes_lem n) (all_pass rest)
    where
      go : (o : Option EntityType) (p : Option (List EntityType)) → passes entity_passes o ≡ true → passes (every entity_passes) p ≡ true → passes (every entity_passes) (maybe none (λ e. maybe none (λ es. some (e ∷ es)) p) o) ≡ true
      go none p k l = refl
      go (some e) none k l = refl
      go (some e) (some es) k l = both_true k l

  scope_path_same : (n : Option Narrowing) (candidates way : List (List ℕ)) → scope_path_by dated s n candidates way ≡ scope_path_by published s n candidates way
  unfolding scope_path_by
  scope_path_same n candidates [] = refl
  scope_path_same n candidates (segment ∷ rest) =
      maybe_same (every entity_passes) unknown _ _ (λ es k. ap verdict (types_same segment rest es k)) (declared_all s (admitted s n candidates)) (all_pass (admitted s n candidates))

  -- ---- a lookup

  side_asked : (ts : Targets) (q : Query) (a : Action) (side : Side) → on_side_by dated s ts q a side ≡ on_side_by published s ts q a side
  unfolding on_side_by
  side_asked ts q a asked.principal = scope_path_same ts.scope.principal a.principals q.path
  side_asked ts q a asked.resource = scope_path_same ts.scope.resource a.resources q.path

  found_same : (ts : Targets) (q : Query) (t : Target) → found_by dated s ts q t ≡ found_by published s ts q t
  unfolding found_by
  found_same ts q t = maybe_same (λ a. true) unknown _ _ (λ a k. side_asked ts q a q.side) (find_action s t.namespace t.id) (any (find_action s t.namespace t.id))
    where
      any : (o : Option Action) → passes (λ a. true) o ≡ true
      any none = refl
      any (some a) = refl

  answered_same : (ts : Targets) (q : Query) (buffer : List ℕ) → answered_by dated s ts q buffer ≡ answered_by published s ts q buffer
  unfolding answered_by
  answered_same ts q buffer = go (target_at q.position ts.list)
    where
      go : (o : Option Target) → maybe (refusal 12 3 buffer) (λ t. placed (output (found_by dated s ts q t)) buffer) o ≡ maybe (refusal 12 3 buffer) (λ t. placed (output (found_by published s ts q t)) buffer) o
      go none = refl
      go (some t) = ap (λ p. placed (output p) buffer) (found_same ts q t)

  -- ---- the facts of a target

  module _ (bs : List Binder) (k : every (λ b. no_time_named b.annotation) bs ≡ true) (p : Profile) (scope : Scope) (a : Option Action) (own : passes action_passes a ≡ true) where
    abbrev now : Facts
    now = facts_among dated p s scope a bs

    abbrev before : Facts
    before = facts_among published p s scope a bs

    input_same : (name : List ℕ) → input_type_by dated a name ≡ input_type_by published a name
    unfolding input_type_by
    input_same name =
        maybe_same action_passes none _ _
        (λ b l. maybe_same no_times_among none _ _
        (λ fields m. maybe_same no_times_in none _ _ (λ u q. field_same name u q) (find_attribute fields (text "input")) (attribute_passes fields (text "input") m))
        (fields_of b.context) (fields_pass b.context l))
        a own

    var_same : (name : List ℕ) → var_type now name ≡ var_type before name
    unfolding var_type
    var_same name = go (last_named name bs) (last_passes name bs k)
      where
        go : (o : Option Annotation) → passes no_time_named o ≡ true → maybe (input_type_by dated a name) (λ n. some (annotation_type_by dated n)) o ≡ maybe (input_type_by published a name) (λ n. some (annotation_type_by published n)) o
        go none l = input_same name
        go (some n) l = ap some (annotation_same n l)

    side_same : (n : Option Narrowing) (candidates way : List (List ℕ)) → side_type_by dated s n candidates way ≡ side_type_by published s n candidates way
    unfolding side_type_by
    side_same n candidates [] = refl
    side_same n candidates (segment ∷ rest) = ap if_resolved (scope_path_same n candidates (segment ∷ rest))

    root_same : (b : Action) (way : List (List ℕ)) → root_type now b way ≡ root_type before b way
    unfolding root_type
    root_same b [] = refl
    root_same b (root ∷ tail) = rw (side_same scope.principal b.principals tail, side_same scope.resource b.resources tail)

    scope_same : (way : List (List ℕ)) → scope_field_type now way ≡ scope_field_type before way
    unfolding scope_field_type
    scope_same way = maybe_same action_passes none _ _ (λ b l. root_same b way) a own

    type_same : (t : Term) → term_type (some now) t ≡ term_type (some before) t
    unfolding term_type
    type_same (condition.entity n) = refl
    type_same (condition.literal l) = refl
    type_same (condition.context_field q) = context_same a q own
    type_same (condition.scope_field q) = scope_same q
    type_same (condition.var v) = var_same v
    type_same condition.wildcard = refl
    type_same (condition.array ts) = refl
    type_same (condition.aggregate g) = refl
    type_same (condition.arith op l r) = refl
    type_same condition.sigil = refl

    -- ---- the rules

    leaf_same : (t : Term) (at : Span) → leaf_breaches now t at ≡ leaf_breaches before t at
    unfolding leaf_breaches
    leaf_same (condition.entity n) at = ap (λ o. not_long_here o at) (type_same (condition.entity n))
    leaf_same (condition.literal l) at = ap (λ o. not_long_here o at) (type_same (condition.literal l))
    leaf_same (condition.context_field q) at = ap (λ o. not_long_here o at) (type_same (condition.context_field q))
    leaf_same (condition.scope_field q) at = ap (λ o. not_long_here o at) (type_same (condition.scope_field q))
    leaf_same (condition.var v) at = ap (λ o. not_long_here o at) (type_same (condition.var v))
    leaf_same condition.wildcard at = refl
    leaf_same (condition.array ts) at = ap (λ o. not_long_here o at) (type_same (condition.array ts))
    leaf_same (condition.aggregate g) at = refl
    leaf_same (condition.arith op l r) at = ap₂ ◌++◌ (leaf_same l at) (leaf_same r at)
    leaf_same condition.sigil at = refl

    arithmetic_same : (t : Term) (at : Span) → arithmetic_breaches now t at ≡ arithmetic_breaches before t at
    unfolding arithmetic_breaches
    arithmetic_same (condition.entity n) at = refl
    arithmetic_same (condition.literal l) at = refl
    arithmetic_same (condition.context_field q) at = refl
    arithmetic_same (condition.scope_field q) at = refl
    arithmetic_same (condition.var v) at = refl
    arithmetic_same condition.wildcard at = refl
    arithmetic_same (condition.array ts) at = refl
    arithmetic_same (condition.aggregate g) at = refl
    arithmetic_same (condition.arith op l r) at = leaf_same (condition.arith op l r) at
    arithmetic_same condition.sigil at = refl

    arguments_same : (name : List ℕ) (action : Option Action) → passes action_passes action ≡ true → (args : Arguments) (at : Span) → argument_breaches now name action args at ≡ argument_breaches before name action args at
    unfolding argument_breaches
    arguments_same name action l no_argument at = refl
    arguments_same name action l (argument param field value rest) at =
        ap₂ ◌++◌ (ap₂ (λ o q. both o q (argument_breach param name) at) (context_same action field l) (type_same value)) (arguments_same name action l rest at)

    timepoint_same : (slot : Slot) (at : Span) → timepoint_breaches now slot at ≡ timepoint_breaches before slot at
    unfolding timepoint_breaches
    timepoint_same (named name) at = ap (λ o. timepoint_breach name o at) (var_same name)
    timepoint_same param_ref at = refl
    timepoint_same binder_ref at = refl

    node_same : (n : Condition) → node_breaches now n ≡ node_breaches before n
    unfolding node_breaches predicate_action
    node_same (one kind at n) = refl
    node_same (two kind at l r) = refl
    node_same (predicate at span ns name args) = arguments_same name (predicate_action s ns name) (action_passes_lem _ name) args span
    node_same (comparison at op l r) =
        ap₂ ◌++◌ (ap₂ ◌++◌ (arithmetic_same l at) (arithmetic_same r at)) (ap₂ (λ o q. both o q (operands_by p (ordering op)) at) (type_same l) (type_same r))
    node_same (exists at b n) = refl
    node_same (tp at slot) = timepoint_same slot at
    node_same (opaque at) = refl

  -- ---- a run

  module _ (c : Condition) (k : no_times_declared c ≡ true) (ks : Choices) (scope : Scope) where
    -- the binders that a reached node's names are looked up among are among those that the walk passes
    node_passes : (x : Scoped) → x ∈ nodes_by ks.binding c → every (λ b. no_time_named b.annotation) x.around ≡ true
    unfolding no_times_declared
    node_passes x i = every_of _ x.around (λ b j. every_in _ (binders c) k b (among_passed ks.binding c x i b j))

    at_same : (a : Option Action) → passes action_passes a ≡ true → (x : Scoped) → x ∈ nodes_by ks.binding c → breaches_at dated ks.profile s scope a x ≡ breaches_at published ks.profile s scope a x
    at_same a l x i = node_same x.around (node_passes x i) ks.profile scope a l x.node

    under_same : (t : Target) → breaches_under_by dated ks s c scope t ≡ breaches_under_by published ks s c scope t
    unfolding breaches_under_by
    under_same t = go (find_action s t.namespace t.id) (action_passes_lem t.namespace t.id)
      where
        all : Vocabulary → Option Action → List Breach
        all v a = gather (breaches_at v ks.profile s scope a) (nodes_by ks.binding c)

        go : (o : Option Action) → passes action_passes o ≡ true
            → maybe (all dated none) (λ a. cond (admits_any_env s scope a) (all dated (some a)) []) o ≡ maybe (all published none) (λ a. cond (admits_any_env s scope a) (all published (some a)) []) o
        go none l = gather_in _ _ (nodes_by ks.binding c) (at_same none l)
        go (some a) l = ap (λ bs. cond (admits_any_env s scope a) bs []) (gather_in _ _ (nodes_by ks.binding c) (at_same (some a) l))

    visits_same : (t : Target) → visits_under_by dated ks s c scope t ≡ visits_under_by published ks s c scope t
    unfolding visits_under_by
    visits_same t =
        ap (λ visits. cond (is_checked s scope t) visits [])
        (map_in _ _ (nodes_by ks.binding c) (at_same (find_action s t.namespace t.id) (action_passes_lem t.namespace t.id)))

  checked_same : (c : Condition) → no_times_declared c ≡ true → (ks : Choices) (ts : Targets) (buffer : List ℕ) → checked_by dated ks s c ts buffer ≡ checked_by published ks s c ts buffer
  unfolding checked_by
  checked_same c k ks ts buffer =
      λ i. record {
        outcome = ap (λ bs. reported (once [] bs) buffer) (gather_same (under_same c k ks ts.scope) ts.list) i;
        visits = ap (begun buffer []) (gather_same (visits_same c k ks ts.scope) ts.list) i;
      }

-- ---- from the bytes

module _ {A B : Type 0} (test : A → Bool) (f : ℕ → B) (g h : A → B) (equal : (a : A) → test a ≡ true → g a ≡ h a) where
  read_same : (r : Got A) → either (λ n. true) test r ≡ true → either f g r ≡ either f h r
  read_same (got a n) l = equal a l
  read_same (bad n) l = refl

-- with no test
read_any : {A B : Type 0} (f : ℕ → B) (g h : A → B) → ((a : A) → g a ≡ h a) → (r : Got A) → either f g r ≡ either f h r
read_any f g h equal (got a n) = equal a
read_any f g h equal (bad n) = refl

all_checks : (rules : ℕ) (schema_bytes condition_bytes target_bytes buffer : List ℕ) → Reads schema_record no_times schema_bytes → Reads condition_record no_times_declared condition_bytes
    → check_with_by dated rules schema_bytes condition_bytes target_bytes buffer ≡ check_with_by published rules schema_bytes condition_bytes target_bytes buffer
unfolding check_with_by
all_checks rules schema_bytes condition_bytes target_bytes buffer reads_schema reads_condition =
    read_same no_times (λ r. unvisited r 1 buffer) _ _
    (λ s h. read_same no_times_declared (λ r. unvisited r 2 buffer) _ _
    (λ c k. read_any (λ r. unvisited r 3 buffer) _ _ (λ ts. checked_same s h c k (choices_of rules) ts buffer) (whole target_record target_bytes))
    (whole condition_record condition_bytes) reads_condition)
    (whole schema_record schema_bytes) reads_schema

all_lookups : (schema_bytes target_bytes query_bytes buffer : List ℕ) → Reads schema_record no_times schema_bytes → lookup_by dated schema_bytes target_bytes query_bytes buffer ≡ lookup_by published schema_bytes target_bytes query_bytes buffer
unfolding lookup_by
all_lookups schema_bytes target_bytes query_bytes buffer reads_schema =
    read_same no_times (λ r. refusal r 1 buffer) _ _
    (λ s h. read_any (λ r. refusal r 3 buffer) _ _
    (λ ts. read_any (λ r. refusal r 4 buffer) _ _ (λ q. answered_same s h ts q buffer) (whole path_record query_bytes))
    (whole target_record target_bytes))
    (whole schema_record schema_bytes) reads_schema

-- ---- by the words of the published Rust no type is a time

abbrev untimed : Ty → Bool
untimed t = not (is_time t)

abbrev untimed_at : Option Ty → Bool
untimed_at = passes untimed

module _ {A : Type 0} (q : A → Bool) where
  cond_holds : (b : Bool) (x y : A) → q x ≡ true → q y ≡ true → q (cond b x y) ≡ true
  cond_holds true x y h k = h
  cond_holds false x y h k = k

  maybe_holds : {B : Type 0} (x : A) (f : B → A) → q x ≡ true → ((b : B) → q (f b) ≡ true) → (o : Option B) → q (maybe x f o) ≡ true
  maybe_holds x f h k none = h
  maybe_holds x f h k (some b) = k b

rich_untimed : (t : Declared) → untimed (rich_type_by published t) ≡ true
unfolding rich_type_by extension_type time_type fits
rich_untimed long = refl
rich_untimed string = refl
rich_untimed bool = refl
rich_untimed (extension name) = cond_holds (λ a. untimed (scalar a)) (same (simple_name name) (text "decimal")) types.decimal types.string refl refl
rich_untimed (set t) = refl
rich_untimed any_set = refl
rich_untimed (object fields) = refl
rich_untimed (entity name) = refl
rich_untimed several_entities = refl
rich_untimed any_entity = refl
rich_untimed never = refl

-- ---- paths

abbrev end_untimed : PathEnd → Bool
end_untimed e = untimed_at (typed e)

abbrev resolution_untimed : PathResolution → Bool
resolution_untimed r = untimed_at (type_at_end r)

abbrev path_untimed : ScopePath → Bool
path_untimed p = untimed_at (if_resolved p)

descend_untimed : (t : Declared) (way : List (List ℕ)) → end_untimed (descend_by published t way) ≡ true
unfolding descend_by typed
descend_untimed t [] = rich_untimed t
descend_untimed t (segment ∷ rest) =
    maybe_holds end_untimed (PathEnd.non_record segment) _ refl
    (λ fields. maybe_holds end_untimed (PathEnd.missing segment) _ refl (λ u. descend_untimed u rest) (find_attribute fields segment))
    (fields_of t)

nested_untimed : (e : PathEnd) → end_untimed e ≡ true → resolution_untimed (nested e) ≡ true
unfolding typed
nested_untimed (PathEnd.resolved t) h = h
nested_untimed (PathEnd.missing segment) h = refl
nested_untimed (PathEnd.non_record segment) h = refl

context_path_untimed : (t : Declared) (way : List (List ℕ)) → resolution_untimed (context_path_by published t way) ≡ true
unfolding context_path_by resolve_in_by
context_path_untimed t [] = refl
context_path_untimed t (head ∷ rest) =
    maybe_holds resolution_untimed head_missing _ refl
    (λ fields. maybe_holds resolution_untimed head_missing _ refl (λ u. nested_untimed (descend_by published u rest) (descend_untimed u rest)) (find_attribute fields head))
    (fields_of t)

context_untimed : (action : Option Action) (way : List (List ℕ)) → untimed_at (context_type_by published action way) ≡ true
unfolding context_type_by
context_untimed action way = maybe_holds untimed_at none _ refl (λ a. context_path_untimed a.context way) action

projection_untimed : (segment : List ℕ) (rest : List (List ℕ)) → end_untimed (projection segment rest) ≡ true
unfolding projection typed fits
projection_untimed segment [] = refl
projection_untimed segment (w ∷ rest) = refl

entity_untimed : (segment : List ℕ) (rest : List (List ℕ)) (e : EntityType) → end_untimed (on_entity_by published segment rest e) ≡ true
unfolding on_entity_by unattributed typed
entity_untimed segment rest e =
    maybe_holds end_untimed (unattributed segment rest) _
    (cond_holds end_untimed (same segment (text "id") || same segment (text "type")) (projection segment rest) (PathEnd.missing segment) (projection_untimed segment rest) refl)
    (λ t. descend_untimed t rest) (find_attribute e.attributes segment)

types_untimed : (segment : List ℕ) (rest : List (List ℕ)) (es : List EntityType) → every untimed (types_of (on_types_by published segment rest es)) ≡ true
unfolding every types_of on_types_by
types_untimed segment rest [] = refl
types_untimed segment rest (e ∷ es) = go (typed (on_entity_by published segment rest e)) (entity_untimed segment rest e) (types_of (on_types_by published segment rest es)) (types_untimed segment rest es)
  where
    go : (o : Option Ty) → untimed_at o ≡ true → (ts : List Ty) → every untimed ts ≡ true → every untimed (maybe ts (λ t. t ∷ ts) o) ≡ true
    go none h ts k = k
    go (some t) h ts k = both_true h k

agreed_untimed : (ts : List Ty) → every untimed ts ≡ true → path_untimed (agreed ts) ≡ true
unfolding every agreed
agreed_untimed [] h = refl
agreed_untimed (t ∷ ts) h = cond_holds path_untimed (every (λ u. same_type u t) ts) (ScopePath.resolved t) (ambiguous (renderings (t ∷ ts))) (and_left (untimed t) (every untimed ts) h) refl

failure_untimed : (es : List OnType) (e : PathEnd) → path_untimed (failure es e) ≡ true
unfolding failure
failure_untimed es (PathEnd.resolved t) = refl
failure_untimed es (PathEnd.missing segment) = refl
failure_untimed es (PathEnd.non_record segment) = refl

scope_path_untimed : (s : Schema) (n : Option Narrowing) (candidates way : List (List ℕ)) → path_untimed (scope_path_by published s n candidates way) ≡ true
unfolding scope_path_by verdict
scope_path_untimed s n candidates [] = refl
scope_path_untimed s n candidates (segment ∷ rest) =
    maybe_holds path_untimed unknown _ refl
    (λ es. maybe_holds path_untimed (agreed (types_of (on_types_by published segment rest es))) _ (agreed_untimed (types_of (on_types_by published segment rest es)) (types_untimed segment rest es)) (λ e. failure_untimed (on_types_by published segment rest es) e.path) (first (λ e. failed e.path) (on_types_by published segment rest es)))
    (declared_all s (admitted s n candidates))

entity_of_untimed : (names : List (List ℕ)) → untimed_at (entity_of names) ≡ true
unfolding entity_of fits
entity_of_untimed [] = refl
entity_of_untimed (n ∷ []) = refl
entity_of_untimed (n ∷ (m ∷ rest)) = refl

side_untimed : (s : Schema) (n : Option Narrowing) (candidates way : List (List ℕ)) → untimed_at (side_type_by published s n candidates way) ≡ true
unfolding side_type_by scope_type
side_untimed s n candidates [] = entity_of_untimed (admitted s n candidates)
side_untimed s n candidates (segment ∷ rest) = scope_path_untimed s n candidates (segment ∷ rest)

-- ---- terms

word_untimed : (w : List ℕ) → untimed (word_type_by published w) ≡ true
unfolding word_type_by other_type time_type fits
word_untimed w =
    cond_holds untimed (same w (text "Long")) (scalar types.long) _ refl
    (cond_holds untimed (same w (text "String")) (scalar types.string) _ refl
    (cond_holds untimed (same w (text "Bool") || same w (text "Boolean")) (scalar types.bool) _ refl
    (cond_holds untimed (same w (text "decimal") || same w (text "Decimal")) (scalar types.decimal) (types.entity (some w)) refl refl)))

annotation_untimed : (n : Annotation) → untimed (annotation_type_by published n) ≡ true
unfolding annotation_type_by fits
annotation_untimed timepoint = refl
annotation_untimed (path segments) = word_untimed (last_of segments)

input_untimed : (action : Option Action) (name : List ℕ) → untimed_at (input_type_by published action name) ≡ true
unfolding input_type_by field_type_by
input_untimed action name =
    maybe_holds untimed_at none _ refl
    (λ a. maybe_holds untimed_at none _ refl
    (λ fields. maybe_holds untimed_at none _ refl
    (λ t. maybe_holds untimed_at none _ refl (λ inner. maybe_holds untimed_at none _ refl (λ u. rich_untimed u) (find_attribute inner name)) (fields_of t))
    (find_attribute fields (text "input")))
    (fields_of a.context))
    action

array_untimed : (os : List (Option Ty)) → untimed (array_of os) ≡ true
unfolding array_of fits
array_untimed [] = refl
array_untimed (none ∷ rest) = refl
array_untimed (some t ∷ rest) = cond_holds untimed (all_like t rest) (array t) mixed_array refl refl

literal_untimed : (l : condition.Literal) → untimed (literal_type l) ≡ true
unfolding fits
literal_untimed (condition.integer n) = refl
literal_untimed (condition.decimal n) = refl
literal_untimed (condition.string w) = refl
literal_untimed (condition.bool b) = refl

module _ (f : Facts) (e : f.vocabulary ≡ published) where
  root_untimed : (a : Action) (way : List (List ℕ)) → untimed_at (root_type f a way) ≡ true
  unfolding root_type
  root_untimed a [] = refl
  root_untimed a (root ∷ tail) =
      rw e
      (cond_holds untimed_at (same root (text "principal")) (side_type_by published f.schema f.scope.principal a.principals tail) _ (side_untimed f.schema f.scope.principal a.principals tail)
      (cond_holds untimed_at (same root (text "resource")) (side_type_by published f.schema f.scope.resource a.resources tail) none (side_untimed f.schema f.scope.resource a.resources tail) refl))

  var_untimed : (name : List ℕ) → untimed_at (var_type f name) ≡ true
  unfolding var_type
  var_untimed name = rw e (maybe_holds untimed_at (input_type_by published f.action name) _ (input_untimed f.action name) (λ n. annotation_untimed n) (last_named name f.binders))

  type_untimed : (t : Term) → untimed_at (term_type (some f) t) ≡ true
  unfolding term_type scope_field_type fits
  type_untimed (condition.entity n) = refl
  type_untimed (condition.literal l) = literal_untimed l
  type_untimed (condition.context_field q) = rw e (context_untimed f.action q)
  type_untimed (condition.scope_field q) = maybe_holds untimed_at none _ refl (λ a. root_untimed a q) f.action
  type_untimed (condition.var v) = var_untimed v
  type_untimed condition.wildcard = refl
  type_untimed (condition.array ts) = array_untimed (element_types ts)
  type_untimed (condition.aggregate g) = refl
  type_untimed (condition.arith op l r) = refl
  type_untimed condition.sigil = refl

no_time : (t : Ty) → untimed t ≡ true → is_time t ≡ false
no_time t = go (is_time t)
  where
    go : (b : Bool) → not b ≡ true → b ≡ false
    go true h = sym h
    go false h = refl

order_before : (f : Facts) → f.vocabulary ≡ published → (l : Term) (t u : Ty) → term_type (some f) l ≡ some t → are_ordered t u ≡ (is_numeric t && is_numeric u)
order_before f e l t u h = ordered_before t u (no_time t (sym (ap untimed_at h) ∙ type_untimed f e l))

pub as_before : AsBefore
as_before = record { checks = all_checks; lookups = all_lookups; order = order_before }
