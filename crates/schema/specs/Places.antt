-- What positions of a schema's bytes stand for, and what the answers of the lookups mean.
use Rattle.std.specs.Prelude.{ℕ, ◌+◌, ◌≤◌, ◌<◌, ◌≡◌, Bool, true, false, cond, ◌&&◌, List, [], length, get_or, drop, eqb, Some, None, Result, MatchResult}
use Rattle.std.proofs.Math.Option.{Option, none, some}
use Rattle.names.specs.Lists.{first}
use Rattle.names.specs.Fields.{Reader, ◌>>=◌, levels, whole, many, counted, string_of}
use Rattle.names.specs.Names.{same, below, plain, path_name, joined}
use Rattle.names.specs.Read.{word_at, ending, accepted, value_or, row, is_row, row_in, Found}
use Rattle.schema.specs.Schema.{Key, Declared, Attributes, EntityType, Action, Schema, never, nothing, ascending, type_at, attributes, entity_type, action, key_of, schema_record}
use Rattle.schema.specs.Find.{action_type, find_entity}
use Rattle.names.specs.declared.Row.{Row}
use Rattle.names.specs.declared.refusal.Refusal.{Refusal}
use Rattle.schema.specs.declared.namespace.Namespace.{Namespace}
use Rattle.schema.specs.declared.kind.TypeKind.{TypeKind}

-- where the byte after the string at a position stands
abbrev pub past_word : List ℕ → ℕ → ℕ
past_word s at = at + 1 + get_or s at 0

-- the type name and the id of the action at a position
abbrev pub key_at : List ℕ → ℕ → Key
key_at s at = record { type = word_at s at; id = word_at s (past_word s at) }

abbrev pub earlier_key : List ℕ → Found → Option Key
earlier_key s None = none
earlier_key s (Some p) = some (key_at s p)

-- What stands at a position of accepted bytes: a type and attributes (all levels serve everywhere), names in order, an entity type, an action.
abbrev pub type_in : List ℕ → ℕ → Declared
type_in s at = value_or never (type_at levels s at)

abbrev pub is_type : List ℕ → ℕ → Bool
is_type s at = accepted (type_at levels s at)

abbrev pub fields_in : List ℕ → ℕ → Attributes
fields_in s at = value_or nothing (attributes (type_at levels) s at)

abbrev pub are_fields : List ℕ → ℕ → Bool
are_fields s at = accepted (attributes (type_at levels) s at)

abbrev pub names_in : List ℕ → ℕ → List (List ℕ)
names_in s at = value_or [] (counted (ascending path_name) s at)

abbrev pub are_names : List ℕ → ℕ → Bool
are_names s at = accepted (counted (ascending path_name) s at)

abbrev pub no_entity : EntityType
no_entity = record { name = []; ancestors = []; attributes = nothing }

abbrev pub entity_in : List ℕ → ℕ → EntityType
entity_in s at = value_or no_entity (entity_type none s at)

abbrev pub is_entity : List ℕ → ℕ → Bool
is_entity s at = accepted (entity_type none s at)

abbrev pub no_action : Action
no_action = record { type = []; id = []; principals = []; resources = []; context = never }

abbrev pub action_in : List ℕ → ℕ → Action
action_in s at = value_or no_action (action none s at)

abbrev pub is_action : List ℕ → ℕ → Bool
is_action s at = accepted (action none s at)

-- the whole schema
abbrev pub schema_in : List ℕ → Schema
schema_in s = value_or (record { entities = []; actions = [] }) (whole schema_record s)

abbrev pub is_schema : List ℕ → Bool
is_schema s = accepted (whole schema_record s)

-- so many entity types from a position
abbrev pub entities_at : ℕ → Reader (List EntityType)
entities_at n = many (λ e. e.name) entity_type n none

abbrev pub are_entities : List ℕ → ℕ → ℕ → Bool
are_entities s n at = accepted (entities_at n s at)

-- an attribute by itself: its name and its type
unfoldable pub attribute_at : Reader Declared
attribute_at = do
  _ ← string_of plain
  type_at levels

-- the type below the sets around another, which end where it does
pub record Below (s : List ℕ) (start at : ℕ) : Type 0 where
  pub stands : is_type s at ≡ true
  pub ends : ending (type_at levels s start) ≡ ending (type_at levels s at)
  pub behind : start ≤ at

-- what stands in a type behind its first bytes: so many attributes from a position, which end where it does
pub record Inside (s : List ℕ) (at : ℕ) (r : Row) : Type 0 where
  pub stands : is_row attribute_at s r.count r.at ≡ true
  pub ends : ending (type_at levels s at) ≡ ending (row attribute_at r.count s r.at)
  pub few : r.count < 256
  pub ahead : at < r.at
  pub within : r.at ≤ length s

-- What a lookup's answer means: what stands at the position, or none.
abbrev pub found_in : {A : Type 0} → (ℕ → A) → Found → Option A
found_in value (Some p) = some (value p)
found_in value None = none

abbrev pub found_stands : (ℕ → Bool) → Found → Bool
found_stands is (Some p) = is p
found_stands is None = true

-- an answer to a lookup that the definitions answer by o
pub record Answers {A : Type 0} (is : ℕ → Bool) (what : ℕ → A) (o : Option A) (r : Found) : Type 0 where
  pub value : found_in what r ≡ o
  pub stands : found_stands is r ≡ true

abbrev pub Finds : List ℕ → Option Declared → Found → Type 0
Finds s = Answers (is_type s) (type_in s)

abbrev pub FindsFields : List ℕ → Option Attributes → Found → Type 0
FindsFields s = Answers (are_fields s) (fields_in s)

abbrev pub FindsEntity : List ℕ → Option EntityType → Found → Type 0
FindsEntity s = Answers (is_entity s) (entity_in s)

abbrev pub FindsAction : List ℕ → Option Action → Found → Type 0
FindsAction s = Answers (is_action s) (action_in s)

-- a part stands at a position: a type, attributes, names in order
pub record Standing {A : Type 0} (is : ℕ → Bool) (what : ℕ → A) (a : A) (r : ℕ) : Type 0 where
  pub stands : is r ≡ true
  pub value : what r ≡ a

-- a byte that stands at a position: the first of a type, a count
pub record KindHere (s : List ℕ) (at k : ℕ) : Type 0 where
  pub inside : at < length s
  pub kind : k ≡ get_or s at 0

-- the byte that a type of a kind begins with
abbrev pub kind_number : TypeKind → ℕ
kind_number TypeKind.Long = 0
kind_number TypeKind.String = 1
kind_number TypeKind.Bool = 2
kind_number TypeKind.Extension = 3
kind_number TypeKind.Set = 4
kind_number TypeKind.AnySet = 5
kind_number TypeKind.Record = 6
kind_number TypeKind.Entity = 7
kind_number TypeKind.SeveralEntities = 8
kind_number TypeKind.AnyEntity = 9
kind_number TypeKind.Never = 10

-- what a byte stands for: a kind, or none, which is refused
abbrev pub Decodes : ℕ → Result TypeKind Refusal → Type 0
Decodes byte r = MatchResult r (λ kind. kind_number kind ≡ byte) (λ refusal. (refusal ≡ Refusal.UndefinedChoice) × (10 < byte))

-- the actions of the schema stand in a row
pub record ActionsOf (s : List ℕ) (r : Row) : Type 0 where
  pub stands : accepted (many key_of action r.count none s r.at) ≡ true
  pub value : value_or [] (many key_of action r.count none s r.at) ≡ (schema_in s).actions

-- so many entity types from a position, as they stand there
abbrev pub entities_in : List ℕ → Row → List EntityType
entities_in s r = value_or [] (entities_at r.count s r.at)

-- the entity types of the schema stand in a row
pub record EntitiesOf (s : List ℕ) (r : Row) : Type 0 where
  pub stands : are_entities s r.count r.at ≡ true
  pub value : entities_in s r ≡ (schema_in s).entities

-- a name is looked up in a row of entity types as in the whole schema
abbrev pub serves : List ℕ → Row → List ℕ → Type 0
serves s r name = first (λ e. same e.name name) (entities_in s r) ≡ find_entity (schema_in s) name

-- a row of entity types that serves each name which is not before its first one
pub record Nearby (s : List ℕ) (r : Row) : Type 0 where
  pub stands : are_entities s r.count r.at ≡ true
  pub behind : (name : List ℕ) → below name (word_at s r.at) ≡ false → serves s r name

-- one that serves a name besides
pub record Serving (s name : List ℕ) (r : Row) : Type 0 where
  pub row : Nearby s r
  pub same : serves s r name

-- the first entity type of a row, where it has the name
abbrev pub found_here : List ℕ → List ℕ → Row → Found
found_here s name r = cond (eqb r.count 0) None (cond (same (word_at s r.at) name) (Some r.at) None)

-- one whose first entity type is that of a name, if the schema has it
pub record Near (s name : List ℕ) (r : Row) : Type 0 where
  pub row : Nearby s r
  pub finds : FindsEntity s (find_entity (schema_in s) name) (found_here s name r)

-- the namespace of an action: the bytes given, or names that stand in bytes, joined by `::`
abbrev pub namespace_in : Namespace → List ℕ
namespace_in (Namespace.Whole n) = n.now
namespace_in (Namespace.Parts names) = joined (row_in (string_of path_name) names.bytes.now names.row.count names.row.at)

-- the action of a namespace and an id
abbrev pub is_of : List ℕ → List ℕ → Action → Bool
is_of namespace id a = same a.type (action_type namespace) && same a.id id

-- past a part of a type name: what is left there against the rest of the name looked for; where the part is absent, the names differ
abbrev pub goes_on : List ℕ → List ℕ → Found → Bool
goes_on t rest (Some p) = same (drop p t) rest
goes_on t rest None = false

-- the position that was found, 0 for none
abbrev pub place_of : Found → ℕ
place_of (Some p) = p
place_of None = 0
