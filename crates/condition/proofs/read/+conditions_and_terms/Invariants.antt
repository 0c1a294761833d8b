use Rattle.std.proofs.Common.{◌≡◌, ◌+◌, ◌-◌}
use Rattle.names.specs.Read.{ending}
use Rattle.condition.specs.Condition.{arguments, argument_list, elements, element_list, condition_at, term_at}
use Rattle.condition.proofs.read.+conditions_and_terms.Given as goal

-- Three times the level left: what a condition or a term calls at the level below stands one above that level's conditions and
-- terms, and what calls such a one two above.
abbrev pub decreases-read_aggregate : goal.decreases-read_aggregate
decreases-read_aggregate l = l.left + l.left + l.left + 2

abbrev pub decreases-read_arguments : goal.decreases-read_arguments
decreases-read_arguments l = l.left + l.left + l.left + 1

abbrev pub decreases-read_arith : goal.decreases-read_arith
decreases-read_arith l = l.left + l.left + l.left + 1

abbrev pub decreases-read_binary : goal.decreases-read_binary
decreases-read_binary l = l.left + l.left + l.left + 1

abbrev pub decreases-read_comparison : goal.decreases-read_comparison
decreases-read_comparison l = l.left + l.left + l.left + 1

abbrev pub decreases-read_count : goal.decreases-read_count
decreases-read_count l = l.left + l.left + l.left + 1

abbrev pub decreases-read_elements : goal.decreases-read_elements
decreases-read_elements l = l.left + l.left + l.left + 1

abbrev pub decreases-read_exists : goal.decreases-read_exists
decreases-read_exists l = l.left + l.left + l.left + 1

abbrev pub decreases-read_predicate : goal.decreases-read_predicate
decreases-read_predicate l = l.left + l.left + l.left + 2

abbrev pub decreases-read_subcondition : goal.decreases-read_subcondition
decreases-read_subcondition l = l.left + l.left + l.left

abbrev pub decreases-read_sum : goal.decreases-read_sum
decreases-read_sum l = l.left + l.left + l.left + 1

abbrev pub decreases-read_term : goal.decreases-read_term
decreases-read_term l = l.left + l.left + l.left

abbrev pub decreases-read_unary : goal.decreases-read_unary
decreases-read_unary l = l.left + l.left + l.left + 1

-- the arguments, and the elements, that are left answer as all of them do
abbrev pub invariant-read_arguments-loop : goal.invariant-read_arguments-loop
invariant-read_arguments-loop l =
    let conditions = condition_at l.version l.left in
    let terms = term_at l.version l.left in
    ending (argument_list l.version conditions terms l.s l.start) ≡ ending (arguments l.version conditions terms (l.count - l.counter) l.s l.at)

abbrev pub invariant-read_elements-loop : goal.invariant-read_elements-loop
invariant-read_elements-loop l =
    let conditions = condition_at l.version l.left in
    let terms = term_at l.version l.left in
    ending (element_list l.version conditions terms l.s l.start) ≡ ending (elements l.version conditions terms (l.count - l.counter) l.s l.at)
