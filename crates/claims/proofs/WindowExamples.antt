-- The examples of version 2, computed by the definitions. Assumes nothing.
use mathlib.Core.Path.{refl}
use Rattle.names.specs.Fields.{whole, heading, bytes, u8, number, u16, u32, u64, string_of, many, counted, finished, choose, digits}
use Rattle.names.specs.Names.{path_or_none, plain, plain_byte, same}
use Rattle.names.specs.Paths.{path_of}
use Rattle.names.specs.Read.{refusal_number}
use Rattle.names.specs.Lists.{gather, any_of, first, every}
use Rattle.schema.specs.Schema.{schema_record}
use Rattle.schema.specs.Find.{find_action, action_type}
use Rattle.condition.specs.Condition.{condition_record_up_to, condition_record, condition_at, term_at, condition_kinds, unary, binary, predicate_of, arguments, argument_list, units, fits, amount_of, seconds_of, window_kinds, window, binder, term_kinds, given, aggregate_of, aggregate_kinds, count_of, too_deep, span}
use Rattle.condition.specs.Walk.{reached}
use Rattle.targets.specs.Targets.{target_record, narrowing, narrowings, target}
use Rattle.reports.specs.Reports.{once, fitting, reported}
use Rattle.names.specs.Text.{text}
use Rattle.rules.specs.Rules.{node_breaches}
use Rattle.walk.specs.Scopes.{binding_of, nodes_by}
use Rattle.typecheck.specs.Check.{profile_of, check, check_with_by, checked_by, breaches_under_by, is_checked, visits_under_by, begun}
use Rattle.sums.specs.Sums.{arguments_breaches, condition_breaches, term_breaches, aggregate_breaches, breaches, sums_with, sums}
use Rattle.claims.specs.Rows.{Hold, end, ◌and◌}
use Rattle.claims.specs.WindowExamples.{nested, lines}

pub all_lines : Hold lines
unfolding text whole heading bytes u8 number u16 u32 u64 string_of many counted finished choose digits path_or_none plain plain_byte same path_of refusal_number gather any_of first every schema_record find_action action_type condition_record_up_to condition_record condition_at term_at condition_kinds unary binary predicate_of arguments argument_list units fits amount_of seconds_of window_kinds window binder term_kinds given aggregate_of aggregate_kinds count_of too_deep span reached target_record narrowing narrowings target once fitting reported node_breaches profile_of binding_of nodes_by check check_with_by checked_by breaches_under_by is_checked visits_under_by begun arguments_breaches condition_breaches term_breaches aggregate_breaches breaches sums_with sums nested
all_lines =
    (λ x. refl)
    and (λ x. refl)
    and (λ x. refl)
    and (λ x. refl)
    and (λ x. refl)
    and (λ x. refl)
    and (λ x. refl)
    and (λ x. refl)
    and (λ x. refl)
    and (λ x. refl)
    and (λ x. refl)
    and (λ x. refl)
    and (λ x. refl)
    and (λ x. refl)
    and (λ x. refl)
    and (λ x. refl)
    and (λ x. refl)
    and (λ x. refl)
    and (λ x. refl)
    and (λ x. refl)
    and (λ x. refl)
    and (λ x. refl)
    and (λ x. refl)
    and (λ x. refl)
    and (λ x. refl)
    and (λ x. refl)
    and (λ x. refl)
    and (λ x. refl)
    and (λ x. refl)
    and (λ x. refl)
    and (λ x. refl)
    and (λ x. refl)
    and (λ x. refl)
    and (λ x. refl)
    and (λ x. refl)
    and (λ x. refl)
    and end
