-- What is looked up in a schema by name, and the type that a declared one is compared as: by the words known (`rich_type_by`), and by those that the code
-- knows (`rich_type`).
use Rattle.std.specs.Prelude.{ℕ, cond, ◌&&◌, List, [], ◌∷◌, ◌++◌}
use Rattle.std.proofs.Math.Option.{Option, none, some}
use Rattle.names.specs.Lists.{maybe, first}
use Rattle.names.specs.Names.{same, simple_name}
use Rattle.names.specs.Text.{text}
use Rattle.types.specs.Types as types
use Rattle.types.specs.Types.{Ty, Vocabulary, dated, scalar, any_array, array, time_type}
use Rattle.schema.specs.Schema.{Schema, Action, EntityType, Declared, Attributes, nothing, attribute, long, string, bool, extension, set, any_set, object, entity, several_entities, any_entity, never}

-- the type name of the actions of a namespace
unfoldable pub action_type : List ℕ → List ℕ
action_type [] = text "Action"
action_type (b ∷ w) = (b ∷ w) ++ text "::Action"

-- `SchemaInfo::action`
unfoldable pub find_action : Schema → List ℕ → List ℕ → Option Action
find_action s namespace id = first (λ a. same a.type (action_type namespace) && same a.id id) s.actions

unfoldable pub find_entity : Schema → List ℕ → Option EntityType
find_entity s name = first (λ e. same e.name name) s.entities

unfoldable pub find_attribute : Attributes → List ℕ → Option Declared
find_attribute nothing name = none
find_attribute (attribute n t rest) name = cond (same n name) (some t) (find_attribute rest name)

module _ (v : Vocabulary) where
  -- the type of an extension, by its simple name: a string, unless the name is a word for another
  unfoldable pub extension_type : List ℕ → types.Scalar
  extension_type w = cond (same w (text "decimal")) types.decimal (maybe types.string (λ a. a) (time_type v w))

  -- `rich_type`: the type that the checks compare
  unfoldable pub rich_type_by : Declared → Ty
  rich_type_by long = scalar types.long
  rich_type_by string = scalar types.string
  rich_type_by bool = scalar types.bool
  rich_type_by (extension name) = scalar (extension_type (simple_name name))
  rich_type_by (set t) = array (rich_type_by t)
  rich_type_by any_set = any_array
  rich_type_by (object fields) = scalar types.object
  rich_type_by (entity name) = types.entity (some (simple_name name))
  rich_type_by several_entities = types.entity none
  rich_type_by any_entity = types.entity none
  rich_type_by never = scalar types.never

abbrev pub rich_type : Declared → Ty
rich_type = rich_type_by dated

-- the attributes of a type that is a record
unfoldable pub fields_of : Declared → Option Attributes
fields_of long = none
fields_of string = none
fields_of bool = none
fields_of (extension n) = none
fields_of (set t) = none
fields_of any_set = none
fields_of (object fields) = some fields
fields_of (entity n) = none
fields_of several_entities = none
fields_of any_entity = none
fields_of never = none
