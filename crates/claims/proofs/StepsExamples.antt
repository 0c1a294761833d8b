-- The examples of the stepping check, computed by the definitions. Assumes nothing.
use mathlib.Core.Path.{refl}
use Rattle.names.specs.Fields.{whole, heading, bytes, u8, number, u16, u32, string_of, many, counted, finished, choose, digits}
use Rattle.names.specs.Names.{letter, letter_or_digit, identifier, path_name, path_tail, second_colon, path_or_none, plain, plain_byte, same, below, simple_from, simple_name}
use Rattle.names.specs.Paths.{path_of}
use Rattle.names.specs.Lists.{gather, any_of, first, every, select}
use Rattle.names.specs.Text.{text}
use Rattle.schema.specs.Schema.{after, ascending, attributes_of, attributes, kinds, type_at, key_after, action, schema_record}
use Rattle.schema.specs.Find.{find_action, action_type}
use Rattle.condition.specs.Condition.{condition_record_up_to, condition_record, condition_at, term_at, condition_kinds, comparison_of, unary, binary, predicate_of, arguments, argument_list, aggregate_of, aggregate_kinds, count_of, term_kinds, given, span, operator, operators}
use Rattle.condition.specs.Walk.{reached, reached_in, reached_body}
use Rattle.targets.specs.Targets.{target_record, narrowing, narrowings, target}
use Rattle.targets.specs.Appending.{alone_target, before_count, place_of, count_at, with_one_more}
use Rattle.resolution.specs.Resolution.{admits_any_env, side_admits, admitted_by, admitted, entity_of, scope_type, context_type_by, predicate_action}
use Rattle.terms.specs.Terms.{term_type, element_types, array_of, all_like, scope_field_type, root_type, side_type_by}
use Rattle.types.specs.Types.{display, fits}
use Rattle.reports.specs.Reports.{once, encoded, fitting, reported}
use Rattle.reports.specs.Messages.{parts, filled, from}
use Rattle.reports.specs.Decode.{size, report, behind, reports}
use Rattle.reports.specs.Kept.{fold}
use Rattle.reports.specs.Sink as sinks
use Rattle.reports.specs.Sink.{push}
use Rattle.reports.specs.Placed.{placed}
use Rattle.reports.specs.Standing.{standing_among, standing, standing_state, resumed}
use Rattle.names.specs.Writer.{store}
use Rattle.rules.specs.Rules.{node_breaches, argument_breaches, argument_breach, arithmetic_breaches, leaf_breaches, numeric_breaches, like_breaches}
use Rattle.walk.specs.Scopes.{binding_of, nodes_by}
use Rattle.typecheck.specs.Check.{profile_of, breaches_under_by, is_checked, visits_under_by}
use Rattle.typecheck.specs.Run.{reading, begun_from}
use Rattle.steps.specs.Steps.{is_pending, first_pending, begins, start, so_far, capped, done_with, doing, step_over, step, append_to, append, withdraw}
use Rattle.claims.specs.Rows.{Hold, end, ◌and◌}
use Rattle.claims.specs.StepsExamples as examples
use Rattle.claims.specs.StepsExamples.{answers}

pub all_stepped : Hold examples.stepped
unfolding whole heading bytes u8 number u16 u32 string_of many counted finished choose digits letter letter_or_digit identifier path_name path_tail second_colon path_or_none plain plain_byte same below simple_from simple_name path_of gather any_of first every select text after ascending attributes_of attributes kinds type_at key_after action schema_record find_action action_type condition_record_up_to condition_record condition_at term_at condition_kinds comparison_of unary binary predicate_of arguments argument_list aggregate_of aggregate_kinds count_of term_kinds given span operator operators reached reached_in reached_body target_record narrowing narrowings target alone_target before_count place_of count_at with_one_more admits_any_env side_admits admitted_by admitted entity_of scope_type context_type_by predicate_action term_type element_types array_of all_like scope_field_type root_type side_type_by display fits once encoded fitting reported parts filled from size report behind reports fold sinks.append push placed standing_among standing standing_state resumed store node_breaches argument_breaches argument_breach arithmetic_breaches leaf_breaches numeric_breaches like_breaches binding_of nodes_by profile_of breaches_under_by is_checked visits_under_by reading begun_from is_pending first_pending begins start so_far capped done_with doing step_over step append_to append withdraw answers
all_stepped =
    (λ x. refl)
    and (λ x. refl)
    and (λ x. refl)
    and (λ x. refl)
    and (λ x. refl)
    and (λ x. refl)
    and (λ x. refl)
    and (λ x. refl)
    and (λ x. refl)
    and (λ x. refl)
    and (λ x. refl)
    and (λ x. refl)
    and (λ x. refl)
    and (λ x. refl)
    and (λ x. refl)
    and (λ x. refl)
    and (λ x. refl)
    and (λ x. refl)
    and (λ x. refl)
    and (λ x. refl)
    and (λ x. refl)
    and (λ x. refl)
    and end
