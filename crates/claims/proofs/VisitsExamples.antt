-- The examples of the number of visits, computed by the definitions. Assumes nothing.
use mathlib.Core.Path.{refl}
use Rattle.names.specs.Fields.{whole, heading, bytes, u8, number, u16, u32, string_of, many, counted, finished, choose, digits}
use Rattle.names.specs.Names.{letter, letter_or_digit, identifier, path_name, path_tail, second_colon, path_or_none, plain, plain_byte, same, below, simple_from, simple_name}
use Rattle.names.specs.Paths.{path_of}
use Rattle.names.specs.Lists.{gather, any_of, first, every, select}
use Rattle.schema.specs.Schema.{after, ascending, attributes_of, attributes, kinds, type_at, key_after, action, schema_record}
use Rattle.schema.specs.Find.{find_action, action_type}
use Rattle.condition.specs.Condition.{condition_record_up_to, condition_record, condition_at, term_at, condition_kinds, comparison_of, unary, binary, predicate_of, arguments, argument_list, aggregate_of, aggregate_kinds, count_of, term_kinds, given, span, operator, operators}
use Rattle.condition.specs.Walk.{reached, reached_in, reached_body}
use Rattle.targets.specs.Targets.{target_record, narrowing, narrowings, target}
use Rattle.resolution.specs.Resolution.{admits_any_env, side_admits, admitted_by, admitted, entity_of, scope_type, context_type_by, predicate_action}
use Rattle.terms.specs.Terms.{term_type, element_types, array_of, all_like, scope_field_type, root_type, side_type_by}
use Rattle.types.specs.Types.{display, fits}
use Rattle.reports.specs.Reports.{once, encoded, fitting, reported}
use Rattle.reports.specs.Messages.{parts, filled, from}
use Rattle.names.specs.Text.{text}
use Rattle.rules.specs.Rules.{node_breaches, argument_breaches, argument_breach, arithmetic_breaches, leaf_breaches, numeric_breaches, like_breaches}
use Rattle.walk.specs.Scopes.{binding_of, nodes_by}
use Rattle.typecheck.specs.Check.{profile_of, check_with_by, checked_by, breaches_under_by, is_checked, visits_under_by, begun}
use Rattle.claims.specs.Rows.{Hold, end, ◌and◌}
use Rattle.claims.specs.VisitsExamples as examples
use Rattle.claims.specs.VisitsExamples.{lent}

pub all_counted : Hold examples.counted
unfolding whole heading bytes u8 number u16 u32 string_of many counted finished choose digits letter letter_or_digit identifier path_name path_tail second_colon path_or_none plain plain_byte same below simple_from simple_name path_of gather any_of first every select after ascending attributes_of attributes kinds type_at key_after action schema_record find_action action_type condition_record_up_to condition_record condition_at term_at condition_kinds comparison_of unary binary predicate_of arguments argument_list aggregate_of aggregate_kinds count_of term_kinds given span operator operators reached reached_in reached_body target_record narrowing narrowings target admits_any_env side_admits admitted_by admitted entity_of scope_type context_type_by predicate_action term_type element_types array_of all_like scope_field_type root_type side_type_by display fits once encoded fitting reported parts filled from text node_breaches argument_breaches argument_breach arithmetic_breaches leaf_breaches numeric_breaches like_breaches profile_of binding_of nodes_by check_with_by checked_by breaches_under_by is_checked visits_under_by begun lent
all_counted =
    (λ x. refl)
    and (λ x. refl)
    and (λ x. refl)
    and (λ x. refl)
    and (λ x. refl)
    and (λ x. refl)
    and (λ x. refl)
    and (λ x. refl)
    and (λ x. refl)
    and (λ x. refl)
    and (λ x. refl)
    and (λ x. refl)
    and (λ x. refl)
    and (λ x. refl)
    and end
