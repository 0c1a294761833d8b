-- Document 01's whole run, computed by the definitions. Assumes nothing.
use mathlib.Core.Path.{refl}
use Rattle.names.specs.Fields.{whole, heading, bytes, u8, number, u16, u32, string_of, many, counted, finished, choose, digits}
use Rattle.names.specs.Names.{path_or_none, plain, plain_byte, same}
use Rattle.names.specs.Lists.{gather, any_of, first, every}
use Rattle.schema.specs.Schema.{schema_record}
use Rattle.schema.specs.Find.{find_action, action_type}
use Rattle.condition.specs.Condition.{condition_record_up_to, condition_record, condition_at, term_at, condition_kinds, comparison_of, term_kinds, given, span, operator, operators}
use Rattle.condition.specs.Walk.{reached, reached_in}
use Rattle.targets.specs.Targets.{target_record, narrowing, narrowings, target}
use Rattle.terms.specs.Terms.{term_type}
use Rattle.types.specs.Types.{display, fits}
use Rattle.reports.specs.Reports.{once, encoded, fitting, reported}
use Rattle.reports.specs.Messages.{parts, filled, from}
use Rattle.names.specs.Text.{text}
use Rattle.rules.specs.Rules.{node_breaches, arithmetic_breaches, numeric_breaches}
use Rattle.walk.specs.Scopes.{binding_of, nodes_by}
use Rattle.typecheck.specs.Check.{profile_of, check, check_with_by, checked_by, breaches_under_by, is_checked, visits_under_by, begun}
use Rattle.claims.specs.WholeRun.{Runs}

pub whole_run : Runs
unfolding text whole heading bytes u8 number u16 u32 string_of many counted finished choose digits path_or_none plain plain_byte same gather any_of first every schema_record find_action action_type condition_record condition_at term_at condition_kinds comparison_of term_kinds span operator operators reached reached_in target_record narrowing narrowings target term_type display fits once encoded fitting reported parts filled from check check_with_by profile_of binding_of nodes_by checked_by breaches_under_by is_checked visits_under_by begun node_breaches arithmetic_breaches numeric_breaches condition_record_up_to given
whole_run = (refl, refl)
