-- The examples of version 3, computed by the definitions. Assumes nothing.
use mathlib.Core.Path.{refl}
use Rattle.names.specs.Fields.{whole, heading, bytes, u8, number, u16, u32, u64, twos_complement, i64, string_of, many, counted, finished, choose, digits}
use Rattle.names.specs.Names.{letter, letter_or_digit, identifier, path_name, path_tail, second_colon, path_or_none, plain, plain_byte, same, simple_from, simple_name}
use Rattle.names.specs.Paths.{path_of}
use Rattle.names.specs.Text.{text}
use Rattle.names.specs.Lists.{gather, any_of, first, every}
use Rattle.decimal.specs.Decimal.{digit, minus, unsigned, fraction, behind_digit, begins_with_digit, well_formed, with_fraction, ten_thousandths, value_of, in_range, held, decimal_of, judged, decimal_text}
use Rattle.schema.specs.Schema.{schema_record}
use Rattle.schema.specs.Find.{find_action, action_type}
use Rattle.condition.specs.Condition as condition
use Rattle.condition.specs.Condition.{condition_record_up_to, condition_record, condition_at, term_at, condition_kinds, unary, comparison_of, predicate_of, arguments, argument_list, elements, element_list, units, amount_of, seconds_of, window_kinds, window, given, truths, truth, arith_ops, arith_op, entity_fields, arith_of, term_kinds, span, operator, operators}
use Rattle.condition.specs.Walk.{reached, reached_in}
use Rattle.targets.specs.Targets.{target_record, narrowing, narrowings, target}
use Rattle.terms.specs.Terms.{term_type, element_types, array_of, all_like}
use Rattle.types.specs.Types.{display, fits}
use Rattle.reports.specs.Reports.{once, encoded, fitting, reported}
use Rattle.reports.specs.Decode.{report, behind, reports}
use Rattle.reports.specs.Messages.{parts, filled, from}
use Rattle.rules.specs.Rules.{node_breaches, leaf_breaches, arithmetic_breaches, numeric_breaches, like_breaches}
use Rattle.walk.specs.Scopes.{binding_of, nodes_by}
use Rattle.typecheck.specs.Check.{profile_of, check, check_with_by, checked_by, breaches_under_by, is_checked, visits_under_by, begun}
use Rattle.sums.specs.Sums.{arguments_breaches, condition_breaches, term_breaches, breaches, sums_with, sums}
use Rattle.sweeps.specs.Entries as listing
use Rattle.sweeps.specs.Windows.{concrete_of, concrete_in, concrete_windows, entries, swept, windows}
use Rattle.claims.specs.VisitsExamples.{lent}
use Rattle.claims.specs.Rows.{Hold, end, ◌and◌}
use Rattle.claims.specs.ValueExamples.{lines}

pub all_lines : Hold lines
unfolding whole heading bytes u8 number u16 u32 u64 twos_complement i64 string_of many counted finished choose digits letter letter_or_digit identifier path_name path_tail second_colon path_or_none plain plain_byte same simple_from simple_name path_of text gather any_of first every digit minus unsigned fraction behind_digit begins_with_digit well_formed with_fraction ten_thousandths value_of in_range held decimal_of judged decimal_text schema_record find_action action_type condition_record_up_to condition_record condition_at term_at condition_kinds unary comparison_of predicate_of arguments argument_list elements element_list units condition.fits amount_of seconds_of window_kinds window given truths truth arith_ops arith_op entity_fields arith_of term_kinds span operator operators reached reached_in target_record narrowing narrowings target term_type element_types array_of all_like display fits once encoded fitting reported report behind reports parts filled from node_breaches leaf_breaches arithmetic_breaches numeric_breaches like_breaches profile_of binding_of nodes_by check check_with_by checked_by breaches_under_by is_checked visits_under_by begun arguments_breaches condition_breaches term_breaches breaches sums_with sums listing.encoded listing.listed concrete_of concrete_in concrete_windows entries swept windows lent
all_lines =
    (λ x. refl)
    and (λ x. refl)
    and (λ x. refl)
    and (λ x. refl)
    and (λ x. refl)
    and (λ x. refl)
    and (λ x. refl)
    and (λ x. refl)
    and (λ x. refl)
    and (λ x. refl)
    and (λ x. refl)
    and (λ x. refl)
    and (λ x. refl)
    and (λ x. refl)
    and (λ x. refl)
    and (λ x. refl)
    and (λ x. refl)
    and (λ x. refl)
    and (λ x. refl)
    and (λ x. refl)
    and (λ x. refl)
    and (λ x. refl)
    and (λ x. refl)
    and (λ x. refl)
    and (λ x. refl)
    and (λ x. refl)
    and (λ x. refl)
    and (λ x. refl)
    and (λ x. refl)
    and (λ x. refl)
    and (λ x. refl)
    and (λ x. refl)
    and (λ x. refl)
    and (λ x. refl)
    and (λ x. refl)
    and (λ x. refl)
    and (λ x. refl)
    and (λ x. refl)
    and (λ x. refl)
    and (λ x. refl)
    and (λ x. refl)
    and (λ x. refl)
    and (λ x. refl)
    and (λ x. refl)
    and (λ x. refl)
    and (λ x. refl)
    and (λ x. refl)
    and (λ x. refl)
    and (λ x. refl)
    and (λ x. refl)
    and (λ x. refl)
    and end
