-- The schema record: what it declares, and how it is read.
use Rattle.std.specs.Prelude.{ℕ, zero, suc, Bool, true, cond, ◌&&◌, ◌||◌, List, [], ◌∷◌, leb}
use Rattle.std.proofs.Math.Option.{Option, none, some}
use Rattle.names.specs.Fields.{Reader, ◌>>=◌, ◌<∘>◌, pure, refuse, holds, u8, u16, string_of, many, counted, heading, finished, choose, levels}
use Rattle.names.specs.Names.{path_name, plain, same, below}
use Rattle.names.specs.declared.refusal.Refusal.TheVariants.{UndefinedChoice, TooDeep, NotAscending}

-- a declared type, and the attributes of a record
mutual
  pub data Declared : Type 0 where
    long string bool : Declared
    extension : List ℕ → Declared
    set : Declared → Declared
    any_set : Declared
    object : Attributes → Declared
    entity : List ℕ → Declared
    several_entities any_entity never : Declared
    deriving IsSet as Declared-set

  pub data Attributes : Type 0 where
    nothing : Attributes
    attribute : List ℕ → Declared → Attributes → Attributes

pub record EntityType : Type 0 where
  pub name : List ℕ
  pub ancestors : List (List ℕ)
  pub attributes : Attributes

pub record Action : Type 0 where
  pub type : List ℕ
  pub id : List ℕ
  pub principals : List (List ℕ)
  pub resources : List (List ℕ)
  pub context : Declared

pub record Schema : Type 0 where
  pub entities : List EntityType
  pub actions : List Action

-- strictly after the one before, if there is one
unfoldable pub after : Option (List ℕ) → List ℕ → Bool
after none w = true
after (some v) w = below v w

-- a name of the class, after the one before it; else 8
unfoldable pub ascending : (List ℕ → Bool) → Option (List ℕ) → Reader (List ℕ)
ascending class before = do
  w ← string_of class
  holds NotAscending (after before w) w

-- n attributes, their types read by `type`
unfoldable pub attributes_of : Reader Declared → ℕ → Option (List ℕ) → Reader Attributes
attributes_of type zero before = pure nothing
attributes_of type (suc n) before = do
  name ← ascending plain before
  t ← type
  rest ← attributes_of type n (some name)
  pure (attribute name t rest)

unfoldable pub attributes : Reader Declared → Reader Attributes
attributes type = do
  n ← u8
  attributes_of type n none

-- the types by their first byte, where the types in them are read by `inner`
unfoldable pub kinds : Reader Declared → List (ℕ × Reader Declared)
kinds inner =
    (0, pure long)
    ∷ (1, pure string)
    ∷ (2, pure bool)
    ∷ (3, extension <∘> string_of path_name)
    ∷ (4, set <∘> inner)
    ∷ (5, pure any_set)
    ∷ (6, object <∘> attributes inner)
    ∷ (7, entity <∘> string_of path_name)
    ∷ (8, pure several_entities)
    ∷ (9, pure any_entity)
    ∷ (10, pure never)
    ∷ []

-- a type, with this many levels left, its own included: none left is 7, after 2 and 5
unfoldable pub type_at : ℕ → Reader Declared
type_at zero = do
  k ← u8
  cond (leb k 10) (refuse TooDeep) (refuse UndefinedChoice)
type_at (suc left) = do
  k ← u8
  choose k (kinds (type_at left))

-- an entity type, after the one before it
unfoldable pub entity_type : Option (List ℕ) → Reader EntityType
entity_type before = do
  name ← ascending path_name before
  ancestors ← counted (ascending path_name)
  fields ← attributes (type_at levels)
  pure (record { name = name; ancestors = ancestors; attributes = fields })

-- the type name, then the id
pub record Key : Type 0 where
  pub type : List ℕ
  pub id : List ℕ

unfoldable pub key_after : Option Key → Key → Bool
key_after none k = true
key_after (some j) k = below j.type k.type || (same j.type k.type && below j.id k.id)

-- an action, after the one before it, which is judged at the id
unfoldable pub action : Option Key → Reader Action
action before = do
  type ← string_of path_name
  id ← string_of plain
  _ ← holds NotAscending (key_after before (record { type = type; id = id })) id
  principals ← counted (ascending path_name)
  resources ← counted (ascending path_name)
  context ← type_at levels
  pure (record { type = type; id = id; principals = principals; resources = resources; context = context })

abbrev pub key_of : Action → Key
key_of a = record { type = a.type; id = a.id }

-- mark `DWS`, version 1, entity types, actions, and no byte more
unfoldable pub schema_record : Reader Schema
schema_record = do
  _ ← heading (68 ∷ 87 ∷ 83 ∷ []) 1
  n ← u16
  es ← many (λ e. e.name) entity_type n none
  m ← u16
  acts ← many key_of action m none
  finished (record { entities = es; actions = acts })
