-- Attribute paths, and what a rule's scope admits. What is named `..By` takes the words known first; under the name without it, it is by those that the code knows.
use Rattle.std.specs.Prelude.{ℕ, Bool, true, false, cond, ◌&&◌, ◌||◌, List, [], ◌∷◌}
use Rattle.std.proofs.Math.Option.{Option, none, some}
use Rattle.names.specs.Lists.{maybe, first, any_of, every, select}
use Rattle.names.specs.Names.{same, below, simple_name, joined}
use Rattle.names.specs.Text.{text}
use Rattle.types.specs.Types as types
use Rattle.types.specs.Types.{Ty, Vocabulary, dated, scalar, render, same_type}
use Rattle.schema.specs.Schema.{Schema, Action, EntityType, Declared, Attributes}
use Rattle.schema.specs.Find.{find_action, find_entity, find_attribute, fields_of, rich_type_by}
use Rattle.targets.specs.Targets.{Narrowing, Scope, any, is_type, uid}

-- how an attribute path ends on one type (the `Result` of `resolve_one`)
pub data PathEnd : Type 0 where
  resolved : Ty → PathEnd
  -- the segment is no attribute of its record, or is looked for in what is no record
  missing non_record : List ℕ → PathEnd

-- on from a type, by the segments that are left
unfoldable pub descend_by : Vocabulary → Declared → List (List ℕ) → PathEnd
descend_by v t [] = resolved (rich_type_by v t)
descend_by v t (segment ∷ rest) =
    maybe (non_record segment)
    (λ fields. maybe (missing segment) (λ u. descend_by v u rest) (find_attribute fields segment))
    (fields_of t)

abbrev pub descend : Declared → List (List ℕ) → PathEnd
descend = descend_by dated

unfoldable pub typed : PathEnd → Option Ty
typed (resolved t) = some t
typed (missing segment) = none
typed (non_record segment) = none

-- how a path into a record ends (`PathResolution`)
pub data PathResolution : Type 0 where
  resolved : Ty → PathResolution
  head_missing : PathResolution
  nested_missing non_record : List ℕ → PathResolution

-- below the head
abbrev pub nested : PathEnd → PathResolution
nested (PathEnd.resolved t) = PathResolution.resolved t
nested (PathEnd.missing segment) = nested_missing segment
nested (PathEnd.non_record segment) = PathResolution.non_record segment

-- `resolve_in`
unfoldable pub resolve_in_by : Vocabulary → Attributes → List ℕ → List (List ℕ) → PathResolution
resolve_in_by v fields head rest = maybe head_missing (λ t. nested (descend_by v t rest)) (find_attribute fields head)

abbrev pub resolve_in : Attributes → List ℕ → List (List ℕ) → PathResolution
resolve_in = resolve_in_by dated

-- `resolve_context_path`: a context that is no record has no head either
unfoldable pub context_path_by : Vocabulary → Declared → List (List ℕ) → PathResolution
context_path_by v context [] = head_missing
context_path_by v context (head ∷ rest) = maybe head_missing (λ fields. resolve_in_by v fields head rest) (fields_of context)

abbrev pub context_path : Declared → List (List ℕ) → PathResolution
context_path = context_path_by dated

abbrev pub type_at_end : PathResolution → Option Ty
type_at_end (PathResolution.resolved t) = some t
type_at_end head_missing = none
type_at_end (nested_missing segment) = none
type_at_end (PathResolution.non_record segment) = none

unfoldable pub context_type_by : Vocabulary → Option Action → List (List ℕ) → Option Ty
context_type_by v action path = maybe none (λ a. type_at_end (context_path_by v a.context path)) action

abbrev pub context_type : Option Action → List (List ℕ) → Option Ty
context_type = context_type_by dated

-- an undeclared entity type has no ancestors
unfoldable pub ancestors_of : Schema → List ℕ → List (List ℕ)
ancestors_of s name = maybe [] (λ e. e.ancestors) (find_entity s name)

-- `admits`: the named type itself; with membership also a type that lists the named one among its ancestors
unfoldable pub admits : Schema → Narrowing → List ℕ → Bool
admits s any name = true
admits s (is_type t) name = same name t
admits s (uid t member) name = same name t || (member && any_of (λ a. same a t) (ancestors_of s name))

-- whether some type that the action names on a side is admitted; with no narrowing that is not asked
unfoldable pub side_admits : Schema → Option Narrowing → List (List ℕ) → Bool
side_admits s narrow names = maybe true (λ n. any_of (admits s n) names) narrow

-- with no narrowing every type is admitted
unfoldable pub admitted_by : Schema → Option Narrowing → List ℕ → Bool
admitted_by s narrow name = maybe true (λ n. admits s n name) narrow

-- the types of a side that the narrowing leaves
unfoldable pub admitted : Schema → Option Narrowing → List (List ℕ) → List (List ℕ)
admitted s narrow = select (admitted_by s narrow)

-- `admits_any_env`
unfoldable pub admits_any_env : Schema → Scope → Action → Bool
admits_any_env s scope a = side_admits s scope.principal a.principals && side_admits s scope.resource a.resources

-- one entity type is tagged by its simple name, several are untagged
unfoldable pub entity_of : List (List ℕ) → Option Ty
entity_of [] = none
entity_of (t ∷ []) = some (types.entity (some (simple_name t)))
entity_of (t ∷ (u ∷ rest)) = some (types.entity none)

-- `scope_entity_type`: the type of a bare `principal` or `resource`
unfoldable pub scope_type : Schema → Option Narrowing → List (List ℕ) → Option Ty
scope_type s n names = entity_of (admitted s n names)

-- `id` and `type` are strings, which have no fields
unfoldable pub projection : List ℕ → List (List ℕ) → PathEnd
projection segment [] = resolved (scalar types.string)
projection segment (next ∷ rest) = non_record next

-- where the first segment is no attribute
unfoldable pub unattributed : List ℕ → List (List ℕ) → PathEnd
unattributed segment rest =
    cond (same segment (text "id") || same segment (text "type")) (projection segment rest) (missing segment)

-- `resolve_one`: an attribute path on one entity type
unfoldable pub on_entity_by : Vocabulary → List ℕ → List (List ℕ) → EntityType → PathEnd
on_entity_by v segment rest e = maybe (unattributed segment rest) (λ t. descend_by v t rest) (find_attribute e.attributes segment)

abbrev pub on_entity : List ℕ → List (List ℕ) → EntityType → PathEnd
on_entity = on_entity_by dated

-- an entity type's name and how the path ends on it
pub record OnType : Type 0 where
  pub name : List ℕ
  pub path : PathEnd

unfoldable pub on_types_by : Vocabulary → List ℕ → List (List ℕ) → List EntityType → List OnType
on_types_by v segment rest [] = []
on_types_by v segment rest (e ∷ es) = record { name = e.name; path = on_entity_by v segment rest e } ∷ on_types_by v segment rest es

abbrev pub on_types : List ℕ → List (List ℕ) → List EntityType → List OnType
on_types = on_types_by dated

unfoldable pub failed : PathEnd → Bool
failed (resolved t) = false
failed (missing segment) = true
failed (non_record segment) = true

unfoldable pub missing_at : List ℕ → PathEnd → Bool
missing_at segment (resolved t) = false
missing_at segment (missing other) = same segment other
missing_at segment (non_record other) = false

unfoldable pub names_of : List OnType → List (List ℕ)
names_of [] = []
names_of (e ∷ es) = e.name ∷ names_of es

unfoldable pub types_of : List OnType → List Ty
types_of [] = []
types_of (e ∷ es) = maybe (types_of es) (λ t. t ∷ types_of es) (typed e.path)

-- a word put into ascending ones, once
unfoldable pub insert : List ℕ → List (List ℕ) → List (List ℕ)
insert w [] = w ∷ []
insert w (v ∷ rest) = cond (same w v) (v ∷ rest) (cond (below w v) (w ∷ (v ∷ rest)) (v ∷ insert w rest))

unfoldable pub renderings : List Ty → List (List ℕ)
renderings [] = []
renderings (t ∷ ts) = insert (render t) (renderings ts)

-- how an attribute path ends over all the entity types that a scope admits
pub data ScopePath : Type 0 where
  resolved : Ty → ScopePath
  missing : List ℕ → List (List ℕ) → ScopePath
  non_record : List ℕ → ScopePath
  ambiguous : List (List ℕ) → ScopePath
  unknown : ScopePath

-- one type for all, or each rendering once, in order (the Rust drops equal types, and different types render differently); no type admitted is unknown
unfoldable pub agreed : List Ty → ScopePath
agreed [] = unknown
agreed (t ∷ ts) = cond (every (λ u. same_type u t) ts) (resolved t) (ambiguous (renderings (t ∷ ts)))

-- a failure, with the entity types that fail like it; a path that resolved is none and does not come here
unfoldable pub failure : List OnType → PathEnd → ScopePath
failure es (resolved t) = unknown
failure es (missing segment) = missing segment (names_of (select (λ e. missing_at segment e.path) es))
failure es (non_record segment) = non_record segment

-- the first failure, else the type that all agree on
unfoldable pub verdict : List OnType → ScopePath
verdict es = maybe (agreed (types_of es)) (λ e. failure es e.path) (first (λ e. failed e.path) es)

-- the entity types of some names, where all are declared
unfoldable pub declared_all : Schema → List (List ℕ) → Option (List EntityType)
declared_all s [] = some []
declared_all s (n ∷ rest) =
    maybe none (λ e. maybe none (λ es. some (e ∷ es)) (declared_all s rest)) (find_entity s n)

-- `resolve_scope_path`
unfoldable pub scope_path_by : Vocabulary → Schema → Option Narrowing → List (List ℕ) → List (List ℕ) → ScopePath
scope_path_by v s n candidates [] = unknown
scope_path_by v s n candidates (segment ∷ rest) =
    maybe unknown (λ es. verdict (on_types_by v segment rest es)) (declared_all s (admitted s n candidates))

abbrev pub scope_path : Schema → Option Narrowing → List (List ℕ) → List (List ℕ) → ScopePath
scope_path = scope_path_by dated

-- `predicate_namespace`: a predicate's path without a last `Action`
unfoldable pub without_action : List (List ℕ) → List (List ℕ)
without_action [] = []
without_action (w ∷ []) = cond (same (simple_name w) (text "Action")) [] (w ∷ [])
without_action (w ∷ (v ∷ rest)) = w ∷ without_action (v ∷ rest)

-- the action that a predicate names
unfoldable pub predicate_action : Schema → List (List ℕ) → List ℕ → Option Action
predicate_action s ns name = find_action s (joined (without_action ns)) name
