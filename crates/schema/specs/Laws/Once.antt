-- A fact about the row of a schema's actions has one proof at most. Assumes nothing.
use Rattle.std.specs.Prelude.{ℕ, List}
use Rattle.std.proofs.Props.{props}
use Rattle.names.specs.declared.Row.{Row}
use Rattle.schema.specs.Schema.{Declared, Declared-set, Action}
use Rattle.schema.specs.Places.{ActionsOf}

type_set : IsSet Declared
type_set = Declared-set (hlevel props)

action_set : IsSet Action
action_set = hlevel (props, type_set)

pub actions_prop : (s : List ℕ) (r : Row) → IsProp (ActionsOf s r)
actions_prop s r = hlevel (props, action_set)
