-- The examples of the listing, computed by the definitions. Assumes nothing.
use mathlib.Core.Path.{refl}
use Rattle.names.specs.Fields.{whole, heading, bytes, u8, number, u16, u32, u64, string_of, many, counted, finished, choose, digits}
use Rattle.names.specs.Names.{path_or_none, plain, plain_byte, same}
use Rattle.names.specs.Paths.{path_of}
use Rattle.names.specs.Lists.{gather, every}
use Rattle.condition.specs.Condition.{condition_record_up_to, condition_record, condition_at, term_at, condition_kinds, comparison_of, operator, operators, unary, binary, predicate_of, arguments, argument_list, units, fits, amount_of, seconds_of, window_kinds, window, binder, term_kinds, given, aggregate_of, aggregate_kinds, count_of, span}
use Rattle.condition.specs.Walk.{reached, reached_in, reached_body}
use Rattle.sweeps.specs.Entries.{encoded, listed}
use Rattle.sweeps.specs.Windows.{concrete_of, concrete_in, concrete_windows, entries, swept, windows}
use Rattle.claims.specs.Rows.{Hold, end, ◌and◌}
use Rattle.claims.specs.VisitsExamples.{lent}
use Rattle.claims.specs.SweepExamples as examples

pub all_swept : Hold examples.swept
unfolding whole heading bytes u8 number u16 u32 u64 string_of many counted finished choose digits path_or_none plain plain_byte same path_of gather every condition_record_up_to condition_record condition_at term_at condition_kinds comparison_of operator operators unary binary predicate_of arguments argument_list units fits amount_of seconds_of window_kinds window binder term_kinds given aggregate_of aggregate_kinds count_of span reached reached_in reached_body encoded listed concrete_of concrete_in concrete_windows entries swept windows lent
all_swept =
    (λ x. refl)
    and (λ x. refl)
    and (λ x. refl)
    and (λ x. refl)
    and (λ x. refl)
    and (λ x. refl)
    and (λ x. refl)
    and (λ x. refl)
    and (λ x. refl)
    and (λ x. refl)
    and (λ x. refl)
    and (λ x. refl)
    and (λ x. refl)
    and (λ x. refl)
    and (λ x. refl)
    and (λ x. refl)
    and (λ x. refl)
    and (λ x. refl)
    and (λ x. refl)
    and (λ x. refl)
    and end
