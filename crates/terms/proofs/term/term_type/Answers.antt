use Rattle.terms.specs.Laws.Known.{known_names, known_node, known_action}
use Rattle.terms.proofs.Under.{by_kind}
use Rattle.terms.proofs.term.term_type.Goals as goal

pub context_field_type-requires-clause-at_value : goal.context_field_type-requires-clause-at_value
context_field_type-requires-clause-at_value c = search by_kind

pub scope_field_type-requires : goal.scope_field_type-requires
scope_field_type-requires c = search by_kind

pub returns-in-ContextField : goal.returns-in-ContextField
returns-in-ContextField c = search by_kind

pub returns-in-ScopeField : goal.returns-in-ScopeField
returns-in-ScopeField c = search by_kind

pub returns-in-Var : goal.returns-in-Var
returns-in-Var c = search by_kind

pub returns-in_default : goal.returns-in_default
returns-in_default c = search by_kind

pub var_type-requires-clause-names : goal.var_type-requires-clause-names
var_type-requires-clause-names c = search known_names

pub var_type-requires-clause-node_in_bounds : goal.var_type-requires-clause-node_in_bounds
var_type-requires-clause-node_in_bounds c = search known_node

pub var_type-requires-clause-action_value : goal.var_type-requires-clause-action_value
var_type-requires-clause-action_value c = search known_action
