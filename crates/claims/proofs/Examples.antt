-- The rows of the examples hold. Assumes nothing.
use mathlib.Core.Path.{◌≡◌, refl, sym, ap, ◌∙◌}
use mathlib.Core.Bool.{true, false, cond, false≢true}
use mathlib.Core.List.{List, [], ◌∷◌, ◌++◌, append-nil, append_assoc}
use mathlib.Core.Option.{Option, none, some}
use Prim.Native.Nat.{ℕ, zero, suc}
use lib.ListN.{length}
use Rattle.names.specs.Lists.{maybe, gather, first, any_of, every}
use Rattle.names.specs.Names.{same, last_of}
use Rattle.names.specs.Laws.Names.{same_refl}
use Rattle.names.specs.Text.{text}
use Rattle.types.specs.Types as types
use Rattle.types.specs.Types.{Ty, scalar, any_array, mixed_array, fits, is_numeric, tag_fits, compatible}
use Rattle.types.specs.Laws.Types.{is_array, any_array_inside, any_array_inside_right}
use Rattle.types.specs.Meaning.{layered}
use Rattle.schema.specs.Schema.{Schema, Action}
use Rattle.schema.specs.Find.{find_action}
use Rattle.targets.specs.Targets.{Target, Scope, Narrowing, any}
use Rattle.resolution.specs.Resolution.{scope_path_by, declared_all, on_types_by, on_entity_by, unattributed, projection, verdict, failed, failure, types_of, typed, agreed, side_admits, admits_any_env}
use Rattle.condition.specs.Condition as condition
use Rattle.condition.specs.Condition.{Span, Condition, Term, Annotation, Binder, Operator, path, comparison, entity, literal, context_field, scope_field, var, wildcard, array, nil, cons, aggregate, sigil}
use Rattle.condition.specs.Walk.{reached, reached_in, operand_aggregates, operand_binders, declares, binders, named_here, last_named}
use Rattle.terms.specs.Terms.{Facts, facts_of, word_type_by, annotation_type_by, annotation_type, var_type, side_type_by, root_type, scope_field_type, all_like, array_of, element_types, term_type}
use Rattle.rules.specs.Rules.{numeric_breaches, like_breaches, operands_by, ordering, argument_breach, argument_breaches, leaf_breaches, arithmetic_breaches, node_breaches}
use Rattle.walk.specs.Scopes.{flat, nodes_by}
use Rattle.typecheck.specs.Check.{no_choice, breaches_at, breaches_under_by, breaches_under, is_checked}
use Rattle.typecheck.specs.Laws.Visits.{flat_gathered}
use Rattle.reports.specs.Reports.{Breach}
use Rattle.claims.specs.Rows.{Hold, end, ◌and◌}
use Rattle.claims.specs.Examples.{Checked, facts_in, type_in, reports, Operands, Entities, empty, BesideEmpty, ArrayField, argued, binder_of, Bound, Rebound, AnyName, WithoutId, id, part_of_id, comparing, NoPrincipals, narrowed_to, integer, decimal, string, only, declaring, twice, edges}

-- ---- a condition under a target that is checked

-- every reached node is judged
module _ (s : Schema) (c : Condition) (scope : Scope) (t : Target) where
  abbrev broken : Option Action → List Breach
  broken a = gather (node_breaches (facts_of types.plain s c scope a)) (reached c)

  judged : is_checked s scope t ≡ true → breaches_under no_choice s c scope t ≡ broken (find_action s t.namespace t.id)
  unfolding is_checked breaches_under_by
  judged is = go (find_action s t.namespace t.id) is
    where
      all : Option Action → List Breach
      all a = gather (breaches_at types.dated types.plain s scope a) (nodes_by flat c)

      go : (o : Option Action) → maybe true (admits_any_env s scope) o ≡ true → maybe (all none) (λ a. cond (admits_any_env s scope a) (all (some a)) []) o ≡ broken o
      go none is = flat_gathered types.dated types.plain s c scope none
      go (some a) is = rw is (flat_gathered types.dated types.plain s c scope (some a))

module _ (x : Checked) where
  pub computed : (c : Condition) → reports x c ≡ length (gather (node_breaches (facts_in x c)) (reached c))
  computed c = ap length (judged x.schema c x.scope x.target x.is)

-- a term with a type that is no Long is no arithmetic and no aggregate
record Plain (f : Facts) (at : Span) (t : Term) : Type 0 where
  pub atoms : arithmetic_breaches f t at ≡ []
  pub inner : reached_in t ≡ []

plain : (f : Facts) (at : Span) (t : Term) (ty : Ty) → term_type (some f) t ≡ some ty → is_numeric ty ≡ false → Plain f at t
unfolding arithmetic_breaches reached_in term_type fits
plain f at (entity n) ty e h = record { atoms = refl; inner = refl }
plain f at (literal l) ty e h = record { atoms = refl; inner = refl }
plain f at (context_field p) ty e h = record { atoms = refl; inner = refl }
plain f at (scope_field p) ty e h = record { atoms = refl; inner = refl }
plain f at (var v) ty e h = record { atoms = refl; inner = refl }
plain f at wildcard ty e h = record { atoms = refl; inner = refl }
plain f at (array ts) ty e h = record { atoms = refl; inner = refl }
plain f at (aggregate a) ty e h = let same : scalar types.long ≡ ty = cc in absurd (false≢true (sym h ∙ sym (ap is_numeric same)))
plain f at (condition.arith op l r) ty e h = let same : scalar types.long ≡ ty = cc in absurd (false≢true (sym h ∙ sym (ap is_numeric same)))
plain f at sigil ty e h = record { atoms = refl; inner = refl }

-- a comparison of such terms is judged by their types alone
module _ (x : Checked) (op : Operator) (l r : Term) (tl tr : Ty) where
  abbrev c : Condition
  c = comparison x.at op l r

  by_types : type_in x c l ≡ some tl → type_in x c r ≡ some tr → Plain (facts_in x c) x.at l → Plain (facts_in x c) x.at r → reports x c ≡ length (operands_by types.plain (ordering op) tl tr x.at)
  unfolding reached gather node_breaches
  by_types el er pl pr =
      computed x c ∙ rw (pl.inner, pr.inner, pl.atoms, pr.atoms, el, er, append-nil)

  no_long : type_in x c l ≡ some tl → type_in x c r ≡ some tr → is_numeric tl ≡ false → is_numeric tr ≡ false → reports x c ≡ length (operands_by types.plain (ordering op) tl tr x.at)
  no_long el er nl nr = by_types el er (plain (facts_in x c) x.at l tl el nl) (plain (facts_in x c) x.at r tr er nr)

-- ---- arrays in every number of layers

array_numeric : (t : Ty) → is_array t ≡ true → is_numeric t ≡ false
unfolding is_array fits
array_numeric (scalar a) h = absurd (false≢true h)
array_numeric (types.entity e) h = absurd (false≢true h)
array_numeric any_array h = refl
array_numeric mixed_array h = refl
array_numeric (types.array t) h = refl

layers_numeric : (n : ℕ) (t : Ty) → is_array t ≡ true → is_numeric (layered n t) ≡ false
unfolding layered fits
layers_numeric zero t h = array_numeric t h
layers_numeric (suc n) t h = refl

empty_type : (n : ℕ) (f : Option Facts) → term_type f (empty n) ≡ some (layered n any_array)
unfolding term_type element_types array_of all_like layered
empty_type zero f = refl
empty_type (suc n) f = rw (empty_type n none)

empty_numeric : (n : ℕ) → is_numeric (layered n any_array) ≡ false
unfolding is_array
empty_numeric n = layers_numeric n any_array refl

empty_left : (x : BesideEmpty (λ at e t. comparison at condition.eq e t)) → reports x.under (comparison x.under.at condition.eq (empty x.layers) x.term) ≡ 0
unfolding like_breaches
empty_left x =
    no_long x.under condition.eq (empty x.layers) x.term _ _ (empty_type x.layers _) x.is (empty_numeric x.layers) (layers_numeric x.layers x.type x.is_array)
    ∙ rw (any_array_inside (λ e f. true) x.layers x.type, x.is_array)

empty_right : (x : BesideEmpty (λ at e t. comparison at condition.eq t e)) → reports x.under (comparison x.under.at condition.eq x.term (empty x.layers)) ≡ 0
unfolding like_breaches
empty_right x =
    no_long x.under condition.eq x.term (empty x.layers) _ _ x.is (empty_type x.layers _) (layers_numeric x.layers x.type x.is_array) (empty_numeric x.layers)
    ∙ rw (any_array_inside_right (λ e f. true) x.layers x.type, x.is_array)

empty_argument : (x : ArrayField) → argued x ≡ 0
unfolding reached gather node_breaches argument_breaches argument_breach
empty_argument x =
    computed x.under _
    ∙ rw (x.is, empty_type x.layers, any_array_inside_right tag_fits x.layers x.type, x.is_array)

-- ---- binders

-- a binder of a name behind which none has that name
last_binder : (name type : List ℕ) (before after : List Binder) → last_named name after ≡ none → last_named name (before ++ (binder_of name type ∷ after)) ≡ some (path (type ∷ []))
unfolding last_named named_here
last_binder name type [] after h = rw (h, same_refl name)
last_binder name type (b ∷ before) after h = ap (maybe (named_here name b.annotation b.slot) some) (last_binder name type before after h)

module _ (under : Checked) (whole : Condition) (name type : List ℕ) (before after : List Binder) (passes : binders whole ≡ before ++ (binder_of name type ∷ after)) (last : last_named name after ≡ none) where
  pub declared_type : var_type (facts_in under whole) name ≡ some (annotation_type (path (type ∷ [])))
  unfolding var_type
  declared_type = rw (passes, last_binder name type before after last)

bound : (x : Bound) → type_in x.under x.whole (var x.name) ≡ some (scalar types.long)
unfolding term_type annotation_type_by word_type_by last_of same text
bound x = declared_type x.under x.whole x.name (text "Long") x.before x.after x.passes x.last

rebound : (x : Rebound) → type_in x.under x.whole (var x.name) ≡ some (scalar types.string)
unfolding term_type annotation_type_by word_type_by last_of same text
rebound x = declared_type x.under x.whole x.name (text "String") (x.before ++ (binder_of x.name (text "Long") ∷ x.between)) x.after (x.passes ∙ sym (append_assoc x.before _ _)) x.last

-- ---- paths and scopes

module _ (x : WithoutId) where
  id_string : (c : Condition) → type_in x.under c id ≡ some (scalar types.string)
  unfolding term_type scope_field_type root_type side_type_by scope_path_by declared_all on_types_by on_entity_by unattributed projection verdict failed types_of typed agreed first every same text
  id_string c = rw (x.found, x.left, x.declared, x.without)

  id_part : (c : Condition) → type_in x.under c part_of_id ≡ none
  unfolding term_type scope_field_type root_type side_type_by scope_path_by declared_all on_types_by on_entity_by unattributed projection verdict failed failure first same text
  id_part c = rw (x.found, x.left, x.declared, x.without)

  plain_id : (f : Facts) (at : Span) → Plain f at id
  unfolding arithmetic_breaches reached_in
  plain_id f at = record { atoms = refl; inner = refl }

  comparing_id : comparing x condition.eq id string ≡ 0
  unfolding term_type fits like_breaches
  comparing_id = no_long x.under condition.eq id string _ _ (id_string _) refl refl refl

  ordering_id : comparing x condition.lt id integer ≡ 1
  unfolding term_type fits numeric_breaches arithmetic_breaches reached_in
  ordering_id = by_types x.under condition.lt id integer _ _ (id_string _) refl (plain_id _ _) (record { atoms = refl; inner = refl })

  ordering_part : comparing x condition.lt part_of_id integer ≡ 0
  unfolding reached reached_in gather node_breaches arithmetic_breaches
  ordering_part = computed x.under _ ∙ rw id_part

no_principal : (s : Schema) (a : Action) (r : Option Narrowing) → a.principals ≡ [] → admits_any_env s (record { principal = some any; resource = r }) a ≡ false
unfolding admits_any_env side_admits any_of
no_principal s a r e = rw e

module _ (x : NoPrincipals) where
  any_skips : breaches_under no_choice x.schema x.whole (narrowed_to (some any) x) x.target ≡ []
  unfolding breaches_under_by
  any_skips = rw (x.found, no_principal x.schema x.action x.resource x.empty)

  none_judged : (c : Condition) → breaches_under no_choice x.schema c (narrowed_to none x) x.target ≡ gather (node_breaches (facts_of types.plain x.schema c (narrowed_to none x) (some x.action))) (reached c)
  unfolding breaches_under_by admits_any_env side_admits
  none_judged c = rw (x.found, x.admits) (flat_gathered types.dated types.plain x.schema c (narrowed_to none x) (some x.action))

  none_reports : length (breaches_under no_choice x.schema (comparison x.at condition.lt decimal decimal) (narrowed_to none x) x.target) ≡ 1
  unfolding reached reached_in gather node_breaches arithmetic_breaches term_type numeric_breaches fits
  none_reports = ap length (none_judged (comparison x.at condition.lt decimal decimal))

-- a name that a condition declares
module _ (x : AnyName) where
  abbrev one : Condition
  one = declaring x (λ at v. comparison at condition.eq v integer)

  one_long : var_type (facts_in x.under one) x.name ≡ some (scalar types.long)
  unfolding binders gather declares reached reached_in operand_binders operand_aggregates last_named annotation_type_by word_type_by last_of same text
  one_long = declared_type x.under one x.name (text "Long") [] [] refl refl

  one_reports : reports x.under one ≡ 0
  unfolding gather reached reached_in node_breaches arithmetic_breaches term_type like_breaches fits
  one_reports = computed x.under one ∙ rw one_long

  listed_reports : reports x.under (declaring x (λ at v. comparison at condition.eq (only v) (only integer))) ≡ 1
  unfolding gather reached reached_in node_breaches arithmetic_breaches term_type element_types array_of all_like like_breaches fits
  listed_reports = computed x.under _

  twice_string : var_type (facts_in x.under (twice x)) x.name ≡ some (scalar types.string)
  unfolding binders gather declares reached reached_in operand_binders operand_aggregates last_named annotation_type_by word_type_by last_of same text
  twice_string = declared_type x.under (twice x) x.name (text "String") (binder_of x.name (text "Long") ∷ []) [] refl refl

  twice_reports : reports x.under (twice x) ≡ 1
  unfolding gather reached reached_in node_breaches arithmetic_breaches term_type like_breaches fits
  twice_reports = computed x.under (twice x) ∙ rw twice_string

-- ---- all rows

pub all_edges : Hold edges
unfolding gather reached reached_in node_breaches arithmetic_breaches leaf_breaches numeric_breaches like_breaches term_type element_types array_of all_like fits
all_edges =
    (λ (x : Operands condition.lt (scalar types.decimal) (scalar types.decimal)). no_long x.under condition.lt x.l x.r _ _ x.is_left x.is_right refl refl)
    and (λ (x : Operands condition.eq (scalar types.decimal) (scalar types.decimal)). no_long x.under condition.eq x.l x.r _ _ x.is_left x.is_right refl refl)
    and empty_left
    and empty_right
    and empty_argument
    and (λ f. refl)
    and bound
    and (λ x. refl)
    and (λ f. refl)
    and (λ x. computed x _)
    and one_reports
    and listed_reports
    and (λ x. computed x _)
    and (λ (x : WithoutId). id_string x x.whole)
    and (λ (x : WithoutId). id_part x x.whole)
    and comparing_id
    and ordering_id
    and ordering_part
    and any_skips
    and (λ (x : NoPrincipals). none_judged x x.whole)
    and none_reports
    and (λ x. computed x _)
    and (λ x. computed x _)
    and rebound
    and twice_reports
    and (λ (x : Entities). no_long x.operands.under condition.eq x.operands.l x.operands.r _ _ x.operands.is_left x.operands.is_right refl refl)
    and end
