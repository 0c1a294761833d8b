-- The examples of binders in their own bodies, computed by the definitions. Assumes nothing.
use mathlib.Core.Path.{refl}
use Rattle.names.specs.Fields.{whole, heading, bytes, u8, number, u16, u32, string_of, many, counted, finished, choose, digits}
use Rattle.names.specs.Names.{letter, letter_or_digit, identifier, path_name, path_tail, second_colon, path_or_none, plain, plain_byte, same, below, simple_from, simple_name, joined, last_of}
use Rattle.names.specs.Paths.{path_of}
use Rattle.names.specs.Read.{value_or}
use Rattle.names.specs.Text.{text}
use Rattle.names.specs.Lists.{gather, any_of, first, every, select}
use Rattle.schema.specs.Schema.{after, ascending, attributes_of, attributes, kinds, type_at, key_after, action, schema_record}
use Rattle.schema.specs.Find.{find_action, action_type, find_attribute, fields_of, rich_type_by}
use Rattle.condition.specs.Condition.{condition_record_up_to, condition_record, condition_at, term_at, condition_kinds, comparison_of, unary, binary, predicate_of, arguments, argument_list, elements, element_list, exists_of, timepoint_of, slot, slot_kinds, annotation, binder, aggregate_of, aggregate_kinds, count_of, sum_of, arith_of, term_kinds, given, span, operator, operators}
use Rattle.condition.specs.Places.{record_in}
use Rattle.condition.specs.Walk.{declared_by, operand_aggregates, operand_binders, reached, reached_in, reached_body, declares, binders, named_here, last_named}
use Rattle.walk.specs.Scopes.{scoped, scoped_in, scoped_body, binding_of, nodes_by}
use Rattle.targets.specs.Targets.{target_record, narrowing, narrowings, target}
use Rattle.resolution.specs.Resolution.{admits_any_env, side_admits, admitted_by, admitted, context_type_by, predicate_action}
use Rattle.terms.specs.Terms.{other_type, word_type_by, annotation_type_by, field_type_by, input_type_by, var_type, term_type, element_types, array_of, all_like}
use Rattle.types.specs.Types.{display, fits, time_type}
use Rattle.reports.specs.Reports.{once, encoded, fitting, reported}
use Rattle.reports.specs.Decode.{report, behind, reports}
use Rattle.reports.specs.Messages.{parts, filled, from}
use Rattle.rules.specs.Rules.{node_breaches, argument_breaches, argument_breach, arithmetic_breaches, leaf_breaches, numeric_breaches, like_breaches, timepoint_breach, timepoint_breaches}
use Rattle.typecheck.specs.Check.{profile_of, is_checked, breaches_under_by, visits_under_by, begun, checked_by, check_with_by}
use Rattle.sums.specs.Sums.{summand_breach, aggregate_breaches, term_breaches, terms_breaches, arguments_breaches, condition_breaches, breaches, sums_with}
use Rattle.claims.specs.VisitsExamples.{lent}
use Rattle.claims.specs.OwnBodies.{declared, each_once, has_input, none_like_input, aggregates_in, aggregates_among, argument_aggregates, bare_arguments, none_in_arguments, operand_uses, argument_uses, uses, covered, uses_in_bodies, aggregates_of, summands_in_bodies, all_binders, argument_binders, term_binders, element_binders, aggregate_binders}
use Rattle.claims.specs.Rows.{Hold, end, ◌and◌}
use Rattle.claims.specs.OwnBodyExamples.{lines, witnesses}

pub all_lines : Hold lines
unfolding whole heading bytes u8 number u16 u32 string_of many counted finished choose digits letter letter_or_digit identifier path_name path_tail second_colon path_or_none plain plain_byte same below simple_from simple_name joined last_of path_of value_or text gather any_of first every select after ascending attributes_of attributes kinds type_at key_after action schema_record find_action action_type find_attribute fields_of rich_type_by condition_record_up_to condition_record condition_at term_at condition_kinds comparison_of unary binary predicate_of arguments argument_list elements element_list exists_of timepoint_of slot slot_kinds annotation binder aggregate_of aggregate_kinds count_of sum_of arith_of term_kinds given span operator operators record_in declared_by operand_aggregates operand_binders reached reached_in reached_body declares binders named_here last_named scoped scoped_in scoped_body nodes_by target_record narrowing narrowings target admits_any_env side_admits admitted_by admitted context_type_by predicate_action other_type time_type word_type_by annotation_type_by field_type_by input_type_by var_type term_type element_types array_of all_like display fits once encoded fitting reported report behind reports parts filled from node_breaches argument_breaches argument_breach arithmetic_breaches leaf_breaches numeric_breaches like_breaches timepoint_breach timepoint_breaches is_checked begun summand_breach lent profile_of binding_of breaches_under_by visits_under_by checked_by check_with_by aggregate_breaches term_breaches terms_breaches arguments_breaches condition_breaches breaches sums_with
all_lines =
    (λ x. refl)
    and (λ x. refl)
    and (λ x. refl)
    and (λ x. refl)
    and (λ x. refl)
    and (λ x. refl)
    and (λ x. refl)
    and (λ x. refl)
    and (λ x. refl)
    and (λ x. refl)
    and (λ x. refl)
    and (λ x. refl)
    and (λ x. refl)
    and (λ x. refl)
    and (λ x. refl)
    and (λ x. refl)
    and (λ x. refl)
    and (λ x. refl)
    and (λ x. refl)
    and (λ x. refl)
    and (λ x. refl)
    and (λ x. refl)
    and (λ x. refl)
    and (λ x. refl)
    and (λ x. refl)
    and (λ x. refl)
    and (λ x. refl)
    and end

pub all_witnesses : Hold witnesses
unfolding whole heading bytes u8 number u16 u32 string_of many counted finished choose digits letter letter_or_digit identifier path_name path_tail second_colon path_or_none plain plain_byte same below simple_from simple_name joined last_of path_of value_or text gather any_of first every select after ascending attributes_of attributes kinds type_at key_after action schema_record find_action action_type find_attribute fields_of rich_type_by condition_record_up_to condition_record condition_at term_at condition_kinds comparison_of unary binary predicate_of arguments argument_list elements element_list exists_of timepoint_of slot slot_kinds annotation binder aggregate_of aggregate_kinds count_of sum_of arith_of term_kinds given span operator operators record_in declared_by operand_aggregates operand_binders reached reached_in reached_body declares binders named_here last_named scoped scoped_in scoped_body nodes_by target_record narrowing narrowings target admits_any_env side_admits admitted_by admitted context_type_by predicate_action other_type time_type word_type_by annotation_type_by field_type_by input_type_by var_type term_type element_types array_of all_like display fits once encoded fitting reported report behind reports parts filled from node_breaches argument_breaches argument_breach arithmetic_breaches leaf_breaches numeric_breaches like_breaches timepoint_breach timepoint_breaches is_checked begun summand_breach lent profile_of binding_of breaches_under_by visits_under_by checked_by check_with_by aggregate_breaches term_breaches terms_breaches arguments_breaches condition_breaches breaches sums_with declared each_once has_input none_like_input aggregates_in aggregates_among argument_aggregates bare_arguments none_in_arguments operand_uses argument_uses uses covered uses_in_bodies aggregates_of summands_in_bodies all_binders argument_binders term_binders element_binders aggregate_binders
all_witnesses =
    (λ x. refl)
    and (λ x. refl)
    and (λ x. refl)
    and (λ x. refl)
    and (λ x. refl)
    and (λ x. refl)
    and (λ x. refl)
    and end
