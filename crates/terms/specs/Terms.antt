-- The flat environment of a condition, and the types of terms in it. What is named `..By` takes the words known first; under the name without it, it is by those that the code knows.
use Rattle.std.specs.Prelude.{ℕ, Bool, true, false, cond, ◌&&◌, ◌||◌, List, [], ◌∷◌}
use Rattle.std.proofs.Math.Option.{Option, none, some}
use Rattle.names.specs.Lists.{maybe}
use Rattle.names.specs.Names.{same, simple_name, last_of}
use Rattle.condition.specs.Walk.{binders, last_named}
use Rattle.names.specs.Text.{text}
use Rattle.types.specs.Types as types
use Rattle.types.specs.Types.{Ty, Vocabulary, dated, time_type, Profile, scalar, any_array, mixed_array, same_type}
use Rattle.schema.specs.Schema.{Schema, Action, Declared}
use Rattle.targets.specs.Targets.{Narrowing, Scope}
use Rattle.schema.specs.Find.{fields_of, find_attribute, rich_type_by}
use Rattle.resolution.specs.Resolution.{context_type_by, scope_type, ScopePath, scope_path_by}
use Rattle.condition.specs.Condition as condition
use Rattle.condition.specs.Condition.{Condition, Binder, Term, Terms, Annotation, timepoint, path, Literal, entity, literal, context_field, scope_field, var, wildcard, array, aggregate, arith, sigil, nil, cons}

-- the type of a word that the published Rust has no type for: a type of its own, or an entity type
unfoldable pub other_type : Vocabulary → List ℕ → Ty
other_type v w = maybe (types.entity (some w)) scalar (time_type v w)

-- the type that a word names
unfoldable pub word_type_by : Vocabulary → List ℕ → Ty
word_type_by v w =
    cond (same w (text "Long")) (scalar types.long)
    (cond (same w (text "String")) (scalar types.string)
    (cond (same w (text "Bool") || same w (text "Boolean")) (scalar types.bool)
    (cond (same w (text "decimal") || same w (text "Decimal")) (scalar types.decimal)
    (other_type v w))))

abbrev pub word_type : List ℕ → Ty
word_type = word_type_by dated

-- `rich_type_of_annotation`: the type of a named annotation is its last segment's
unfoldable pub annotation_type_by : Vocabulary → Annotation → Ty
annotation_type_by v timepoint = scalar types.timepoint
annotation_type_by v (path segments) = word_type_by v (last_of segments)

abbrev pub annotation_type : Annotation → Ty
annotation_type = annotation_type_by dated

-- what a condition is checked under: the words known, the profile that the caller chose, the schema, the rule's scope, the target's action if it is
-- declared, and the binders that declare names, of which the last of a name counts. No type depends on the profile
pub record Facts : Type 0 where
  pub vocabulary : Vocabulary
  pub profile : Profile
  pub schema : Schema
  pub scope : Scope
  pub action : Option Action
  pub binders : List Binder

-- those of a target whose action is this one, or undeclared, where names are looked up among these binders
abbrev pub facts_among : Vocabulary → Profile → Schema → Scope → Option Action → List Binder → Facts
facts_among v p s scope a bs = record { vocabulary = v; profile = p; schema = s; scope = scope; action = a; binders = bs }

-- in the flat environment all binders of the condition declare their names everywhere
abbrev pub facts_by : Vocabulary → Profile → Schema → Condition → Scope → Option Action → Facts
facts_by v p s c scope a = facts_among v p s scope a (binders c)

abbrev pub facts_of : Profile → Schema → Condition → Scope → Option Action → Facts
facts_of = facts_by dated

-- the type of an attribute of a record
unfoldable pub field_type_by : Vocabulary → List ℕ → Declared → Option Ty
field_type_by v name t = maybe none (λ fields. maybe none (λ u. some (rich_type_by v u)) (find_attribute fields name)) (fields_of t)

abbrev pub field_type : List ℕ → Declared → Option Ty
field_type = field_type_by dated

-- the type of an `input` field of the action's context
unfoldable pub input_type_by : Vocabulary → Option Action → List ℕ → Option Ty
input_type_by v action name =
    maybe none
    (λ a. maybe none (λ fields. maybe none (field_type_by v name) (find_attribute fields (text "input"))) (fields_of a.context))
    action

abbrev pub input_type : Option Action → List ℕ → Option Ty
input_type = input_type_by dated

-- a name's type in the flat environment (`build_type_env`): by the last binder of that name, else by the input field
unfoldable pub var_type : Facts → List ℕ → Option Ty
var_type f name =
    maybe (input_type_by f.vocabulary f.action name) (λ a. some (annotation_type_by f.vocabulary a)) (last_named name f.binders)

abbrev pub if_resolved : ScopePath → Option Ty
if_resolved (ScopePath.resolved t) = some t
if_resolved (ScopePath.missing seg es) = none
if_resolved (ScopePath.non_record seg) = none
if_resolved (ScopePath.ambiguous ts) = none
if_resolved ScopePath.unknown = none

-- one side of the scope: the bare root, or a path of its attributes
unfoldable pub side_type_by : Vocabulary → Schema → Option Narrowing → List (List ℕ) → List (List ℕ) → Option Ty
side_type_by v s n candidates [] = scope_type s n candidates
side_type_by v s n candidates (seg ∷ rest) = if_resolved (scope_path_by v s n candidates (seg ∷ rest))

abbrev pub side_type : Schema → Option Narrowing → List (List ℕ) → List (List ℕ) → Option Ty
side_type = side_type_by dated

-- `principal` or `resource`, and what stands after it; another root has no type
unfoldable pub root_type : Facts → Action → List (List ℕ) → Option Ty
root_type f a [] = none
root_type f a (root ∷ tail) =
    cond (same root (text "principal")) (side_type_by f.vocabulary f.schema f.scope.principal a.principals tail)
    (cond (same root (text "resource")) (side_type_by f.vocabulary f.schema f.scope.resource a.resources tail) none)

-- `scope_field_type`
unfoldable pub scope_field_type : Facts → List (List ℕ) → Option Ty
scope_field_type f p = maybe none (λ a. root_type f a p) f.action

abbrev pub literal_type : Literal → Ty
literal_type (condition.integer n) = scalar types.long
literal_type (condition.decimal n) = scalar types.decimal
literal_type (condition.string w) = scalar types.string
literal_type (condition.bool b) = scalar types.bool

-- whether all of some types are known and like the first (the Rust's clause for two numeric types adds nothing: only Long is numeric)
unfoldable pub all_like : Ty → List (Option Ty) → Bool
all_like t [] = true
all_like t (none ∷ rest) = false
all_like t (some u ∷ rest) = same_type u t && all_like t rest

unfoldable pub array_of : List (Option Ty) → Ty
array_of [] = any_array
array_of (none ∷ rest) = mixed_array
array_of (some t ∷ rest) = cond (all_like t rest) (types.array t) mixed_array

-- a term's type (`term_type`) under the facts; an array's elements are typed without any (`array_literal_type`), so that no name and no path among them has a type
unfoldable mutual
  pub term_type : Option Facts → Term → Option Ty
  term_type f (entity n) = some (types.entity (some (simple_name n.name)))
  term_type f (literal l) = some (literal_type l)
  term_type f (context_field p) = maybe none (λ g. context_type_by g.vocabulary g.action p) f
  term_type f (scope_field p) = maybe none (λ g. scope_field_type g p) f
  term_type f (var v) = maybe none (λ g. var_type g v) f
  term_type f wildcard = none
  term_type f (array ts) = some (array_of (element_types ts))
  term_type f (aggregate a) = some (scalar types.long)
  term_type f (arith op l r) = some (scalar types.long)
  term_type f sigil = none

  pub element_types : Terms → List (Option Ty)
  element_types nil = []
  element_types (cons t ts) = term_type none t ∷ element_types ts
