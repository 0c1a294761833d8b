use Rattle.terms.specs.Laws.Known.{known_names, known_node, known_action}
use Rattle.rules.proofs.AtNode.{slots}
use Rattle.rules.proofs.kinds.timepoint.Goals as goal

pub returns-in-Named : goal.returns-in-Named
returns-in-Named c = search slots

pub returns-in-ParamRef : goal.returns-in-ParamRef
returns-in-ParamRef c = search slots

pub var_type-typed-requires-clause-names : goal.var_type-typed-requires-clause-names
var_type-typed-requires-clause-names c = search known_names

pub var_type-typed-requires-clause-node_in_bounds : goal.var_type-typed-requires-clause-node_in_bounds
var_type-typed-requires-clause-node_in_bounds c = search known_node

pub var_type-typed-requires-clause-action_value : goal.var_type-typed-requires-clause-action_value
var_type-typed-requires-clause-action_value c = search known_action
