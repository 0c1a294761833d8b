-- The examples of datetime and duration, computed by the definitions. Assumes nothing.
use mathlib.Core.Path.{refl}
use mathlib.Core.List.{◌++◌}
use Rattle.names.specs.Fields.{whole, heading, bytes, u8, number, u16, u32, string_of, many, counted, finished, choose, digits}
use Rattle.names.specs.Names.{letter, letter_or_digit, identifier, path_name, path_tail, second_colon, path_or_none, plain, plain_byte, same, below, simple_from, simple_name, joined, last_of}
use Rattle.names.specs.Paths.{path_of}
use Rattle.names.specs.Lists.{gather, any_of, first, every, select}
use Rattle.names.specs.Text.{text}
use Rattle.schema.specs.Schema.{after, ascending, attributes_of, attributes, kinds, type_at, entity_type, key_after, action, schema_record}
use Rattle.schema.specs.Find.{find_action, find_entity, find_attribute, action_type, fields_of, extension_type, rich_type_by}
use Rattle.condition.specs.Condition.{condition_record_up_to, condition_record, condition_at, term_at, condition_kinds, comparison_of, predicate_of, arguments, argument_list, binary, slot_kinds, slot, annotation, binder, elements, element_list, term_kinds, given, entity_fields, exists_of, timepoint_of, sum_of, aggregate_kinds, aggregate_of, arith_of, span, operator, operators}
use Rattle.condition.specs.Walk.{declared_by, operand_aggregates, operand_binders, reached, reached_in, reached_body, declares, binders, named_here, last_named}
use Rattle.targets.specs.Targets.{target_record, narrowing, narrowings, target}
use Rattle.targets.specs.PathRecord.{sides, scope_side, path_record, target_at}
use Rattle.resolution.specs.Resolution.{admits_any_env, side_admits, admitted_by, admitted, typed, failed, names_of, types_of, insert, renderings, agreed, failure, verdict, declared_all, without_action, predicate_action, descend_by, resolve_in_by, context_path_by, context_type_by, on_entity_by, on_types_by, scope_path_by}
use Rattle.terms.specs.Terms.{term_type, element_types, array_of, all_like, var_type, other_type, word_type_by, annotation_type_by, input_type_by, field_type_by}
use Rattle.types.specs.Types.{display, render, fits, time_type}
use Rattle.reports.specs.Reports.{once, encoded, fitting, reported}
use Rattle.reports.specs.Placed.{placed}
use Rattle.reports.specs.Decode.{report, behind, reports}
use Rattle.reports.specs.Messages.{parts, filled, from}
use Rattle.rules.specs.Rules.{timepoint_breach, argument_breach, argument_breaches, leaf_breaches, arithmetic_breaches, timepoint_breaches, node_breaches, numeric_breaches, like_breaches}
use Rattle.walk.specs.Scopes.{binding_of, nodes_by}
use Rattle.typecheck.specs.Check.{profile_of, check_with_by, checked_by, breaches_under_by}
use Rattle.sums.specs.Sums.{summand_breach, aggregate_breaches, condition_breaches, term_breaches, breaches, sums_with, sums}
use Rattle.lookup.specs.Lookup.{on_side_by, found_by, block, output, answered_by, lookup_by}
use Rattle.claims.specs.Rows.{Hold, end, ◌and◌}
use Rattle.claims.specs.Times.{is_time_word, no_times_in, no_times_among, no_times, no_time_named, no_times_declared}
use Rattle.claims.specs.TimeExamples.{lines, needed}

-- the examples, and behind them those that show what is needed
pub all_lines : Hold (lines ++ needed)
unfolding text whole heading bytes u8 number u16 u32 string_of many counted finished choose digits letter letter_or_digit identifier path_name path_tail second_colon path_or_none plain plain_byte same below simple_from simple_name joined last_of path_of gather any_of first every select after ascending attributes_of attributes kinds type_at entity_type key_after action schema_record find_action find_entity find_attribute action_type fields_of extension_type rich_type_by condition_record_up_to condition_record condition_at term_at condition_kinds comparison_of predicate_of arguments argument_list binary slot_kinds slot annotation binder elements element_list term_kinds given entity_fields exists_of timepoint_of sum_of aggregate_kinds aggregate_of arith_of span operator operators declared_by operand_aggregates operand_binders reached reached_in reached_body declares binders named_here last_named target_record narrowing narrowings target sides scope_side path_record target_at admits_any_env side_admits admitted_by admitted typed failed names_of types_of insert renderings agreed failure verdict declared_all without_action predicate_action descend_by resolve_in_by context_path_by context_type_by on_entity_by on_types_by scope_path_by term_type element_types array_of all_like var_type other_type word_type_by annotation_type_by input_type_by field_type_by display render fits time_type once encoded fitting reported placed report behind reports parts filled from timepoint_breach argument_breach argument_breaches leaf_breaches arithmetic_breaches timepoint_breaches node_breaches numeric_breaches like_breaches profile_of binding_of nodes_by check_with_by checked_by breaches_under_by summand_breach aggregate_breaches condition_breaches term_breaches breaches sums_with sums on_side_by found_by block output answered_by lookup_by is_time_word no_times_in no_times_among no_times no_time_named no_times_declared
all_lines =
    (λ x. refl)
    and (λ x. refl)
    and (λ x. refl)
    and (λ x. refl)
    and (λ x. refl)
    and (λ x. refl)
    and (λ x. refl)
    and (λ x. refl)
    and (λ x. refl)
    and (λ x. refl)
    and (λ x. refl)
    and (λ x. refl)
    and (λ x. refl)
    and (λ x. refl)
    and (λ x. refl)
    and (λ x. refl)
    and (λ x. refl)
    and (λ x. refl)
    and (λ x. refl)
    and (λ x. refl)
    and (λ x. refl)
    and (λ x. refl)
    and (λ x. refl)
    and (λ x. refl)
    and (λ x. refl)
    and (λ x. refl)
    and (λ x. refl)
    and (λ x. refl)
    and (λ x. refl)
    and (λ x. refl)
    and (λ x. refl)
    and (λ x. refl)
    and (λ x. refl)
    and (λ x. refl)
    and (λ x. refl)
    and (λ x. refl)
    and (λ x. refl)
    and (λ x. refl)
    and end
