-- The readers of a condition meet their contracts: one cycle of calls. Assumes nothing.
use Rattle.condition.proofs.Sequences.{unaries, binaries, predicates, comparisons, binding, sums, counts, ariths, argument_rows, element_rows}
use Rattle.condition.specs.Condition.{term_at}
use Rattle.condition.specs.Laws.Decoded.{conditions, terms, aggregates}
use Rattle.names.specs.Laws.Readers.{handed_on}
use Rattle.condition.proofs.read.+conditions_and_terms.Goals as goal

pub read_arguments-loop-init : goal.read_arguments-loop-init
read_arguments-loop-init t c = search argument_rows

pub read_arguments-returns-in_err-n : goal.read_arguments-returns-in_err-n
read_arguments-returns-in_err-n t c = handed_on c.from_residual.ensures.1 (search (argument_rows, c.in_err-n.was))

pub read_arguments-returns-in_err-m : goal.read_arguments-returns-in_err-m
read_arguments-returns-in_err-m t c = handed_on c.from_residual-in_err-m.ensures.1 (search (argument_rows, c.in_ok-n.was, c.in_err-m.was))

pub read_arguments-returns-in_err-at : goal.read_arguments-returns-in_err-at
read_arguments-returns-in_err-at t c = handed_on c.from_residual-in_err-at.ensures.1 (search (argument_rows, c.in_ok-n.was, c.in_ok-m.was, c.in_err-at.was))

pub read_arguments-loop-preserved : goal.read_arguments-loop-preserved
read_arguments-loop-preserved t c = search (argument_rows, c.in_ok-n.was, c.in_ok-m.was, c.in_ok-at.was)

pub read_arguments-returns : goal.read_arguments-returns
read_arguments-returns t c = search argument_rows

pub read_arith-returns-in_err-n : goal.read_arith-returns-in_err-n
read_arith-returns-in_err-n t c = handed_on c.from_residual.ensures.1 (search (ariths, c.in_err-n.was))

pub read_arith-returns-in_err-m : goal.read_arith-returns-in_err-m
read_arith-returns-in_err-m t c = handed_on c.from_residual-in_err-m.ensures.1 (search (ariths, c.in_ok-n.was, c.in_err-m.was))

pub read_arith-returns : goal.read_arith-returns
read_arith-returns t c = search (ariths, c.in_ok-n.was, c.in_ok-m.was)

pub read_binary-returns-in_err-p : goal.read_binary-returns-in_err-p
read_binary-returns-in_err-p t c k = handed_on c.from_residual.ensures.1 (search (binaries, c.in_err-p.was))

pub read_binary-returns-in_err-n : goal.read_binary-returns-in_err-n
read_binary-returns-in_err-n t c k = handed_on c.from_residual-in_err-n.ensures.1 (search (binaries, c.in_ok-p.was, c.in_err-n.was))

pub read_binary-returns-in_err-m : goal.read_binary-returns-in_err-m
read_binary-returns-in_err-m t c k = handed_on c.from_residual-in_err-m.ensures.1 (search (binaries, c.in_ok-p.was, c.in_ok-n.was, c.in_err-m.was))

pub read_binary-returns : goal.read_binary-returns
read_binary-returns t c = search (binaries, c.in_ok-p.was, c.in_ok-n.was, c.in_ok-m.was)

pub read_comparison-returns-in_err-n : goal.read_comparison-returns-in_err-n
read_comparison-returns-in_err-n t c = handed_on c.from_residual.ensures.1 (search (comparisons, c.in_err-n.was))

pub read_comparison-returns-in_err-m : goal.read_comparison-returns-in_err-m
read_comparison-returns-in_err-m t c = handed_on c.from_residual-in_err-m.ensures.1 (search (comparisons, c.in_ok-n.was, c.in_err-m.was))

pub read_comparison-returns-in_err-p : goal.read_comparison-returns-in_err-p
read_comparison-returns-in_err-p t c = handed_on c.from_residual-in_err-p.ensures.1 (search (comparisons, c.in_ok-n.was, c.in_ok-m.was, c.in_err-p.was))

pub read_comparison-returns : goal.read_comparison-returns
read_comparison-returns t c = search (comparisons, c.in_ok-n.was, c.in_ok-m.was, c.in_ok-p.was)

pub read_count-returns-in_err-n : goal.read_count-returns-in_err-n
read_count-returns-in_err-n t c = handed_on c.from_residual.ensures.1 (search (counts, c.in_err-n.was))

pub read_count-returns-in_err-m : goal.read_count-returns-in_err-m
read_count-returns-in_err-m t c = handed_on c.from_residual-in_err-m.ensures.1 (search (counts, c.in_ok-n.was, c.in_err-m.was))

pub read_count-returns : goal.read_count-returns
read_count-returns t c = search (counts, c.in_ok-n.was, c.in_ok-m.was)

pub read_elements-loop-init : goal.read_elements-loop-init
read_elements-loop-init t c = search element_rows

pub read_elements-returns-in_err-at : goal.read_elements-returns-in_err-at
read_elements-returns-in_err-at t c = handed_on c.from_residual.ensures.1 (search (element_rows, c.in_err-at.was))

pub read_elements-loop-preserved : goal.read_elements-loop-preserved
read_elements-loop-preserved t c = search (element_rows, c.in_ok-at.was)

pub read_elements-returns : goal.read_elements-returns
read_elements-returns t c = search element_rows

pub read_exists-returns-in_err-n : goal.read_exists-returns-in_err-n
read_exists-returns-in_err-n t c = handed_on c.from_residual.ensures.1 (search (binding, c.in_err-n.was))

pub read_exists-returns-in_err-m : goal.read_exists-returns-in_err-m
read_exists-returns-in_err-m t c = handed_on c.from_residual-in_err-m.ensures.1 (search (binding, c.in_ok-n.was, c.in_err-m.was))

pub read_exists-returns : goal.read_exists-returns
read_exists-returns t c = search (binding, c.in_ok-n.was, c.in_ok-m.was)

pub read_predicate-returns-in_err-n : goal.read_predicate-returns-in_err-n
read_predicate-returns-in_err-n t c = handed_on c.from_residual.ensures.1 (search (predicates, c.in_err-n.was))

pub read_predicate-returns-in_err-m : goal.read_predicate-returns-in_err-m
read_predicate-returns-in_err-m t c = handed_on c.from_residual-in_err-m.ensures.1 (search (predicates, c.in_ok-n.was, c.in_err-m.was))

pub read_predicate-returns-in_err-p : goal.read_predicate-returns-in_err-p
read_predicate-returns-in_err-p t c = handed_on c.from_residual-in_err-p.ensures.1 (search (predicates, c.in_ok-n.was, c.in_ok-m.was, c.in_err-p.was))

pub read_predicate-returns-in_err-q : goal.read_predicate-returns-in_err-q
read_predicate-returns-in_err-q t c = handed_on c.from_residual-in_err-q.ensures.1 (search (predicates, c.in_ok-n.was, c.in_ok-m.was, c.in_ok-p.was, c.in_err-q.was))

pub read_predicate-returns : goal.read_predicate-returns
read_predicate-returns t c = search (predicates, c.in_ok-n.was, c.in_ok-m.was, c.in_ok-p.was, c.in_ok-q.was)

pub read_sum-returns-in_err-n : goal.read_sum-returns-in_err-n
read_sum-returns-in_err-n t c = handed_on c.from_residual.ensures.1 (search (sums, c.in_err-n.was))

pub read_sum-returns-in_err-m : goal.read_sum-returns-in_err-m
read_sum-returns-in_err-m t c = handed_on c.from_residual-in_err-m.ensures.1 (search (sums, c.in_ok-n.was, c.in_err-m.was))

pub read_sum-returns-in_err-p : goal.read_sum-returns-in_err-p
read_sum-returns-in_err-p t c = handed_on c.from_residual-in_err-p.ensures.1 (search (sums, c.in_ok-n.was, c.in_ok-m.was, c.in_err-p.was))

pub read_sum-returns : goal.read_sum-returns
read_sum-returns t c = search (sums, c.in_ok-n.was, c.in_ok-m.was, c.in_ok-p.was)

pub read_unary-returns-in_err-p : goal.read_unary-returns-in_err-p
read_unary-returns-in_err-p t c k = handed_on c.from_residual.ensures.1 (search (unaries, c.in_err-p.was))

pub read_unary-returns-in_err-n : goal.read_unary-returns-in_err-n
read_unary-returns-in_err-n t c k = handed_on c.from_residual-in_err-n.ensures.1 (search (unaries, c.in_ok-p.was, c.in_err-n.was))

pub read_unary-returns : goal.read_unary-returns
read_unary-returns t c = search (unaries, c.in_ok-p.was, c.in_ok-n.was)

pub read_aggregate-returns-in_default : goal.read_aggregate-returns-in_default
read_aggregate-returns-in_default t c = search aggregates

pub read_aggregate-returns-in_err-try_from : goal.read_aggregate-returns-in_err-try_from
read_aggregate-returns-in_err-try_from t c = handed_on c.from_residual.ensures.1 (search (aggregates, c.in_err-try_from.was))

pub read_aggregate-returns-in-Sum : goal.read_aggregate-returns-in-Sum
read_aggregate-returns-in-Sum t c = search (aggregates, c.in_ok-try_from.was)

pub read_aggregate-returns-in-Count : goal.read_aggregate-returns-in-Count
read_aggregate-returns-in-Count t c = search (aggregates, c.in_ok-try_from.was)

pub read_aggregate-returns-in-Call : goal.read_aggregate-returns-in-Call
read_aggregate-returns-in-Call t c = search (aggregates, c.in_ok-try_from.was)

pub read_arguments-returns-in_default : goal.read_arguments-returns-in_default
read_arguments-returns-in_default t c = search argument_rows

pub read_elements-returns-in_default : goal.read_elements-returns-in_default
read_elements-returns-in_default t c = search element_rows

pub read_subcondition-returns-in_default : goal.read_subcondition-returns-in_default
read_subcondition-returns-in_default t c = search conditions

pub read_subcondition-returns-in_err-kind : goal.read_subcondition-returns-in_err-kind
read_subcondition-returns-in_err-kind t c = handed_on c.from_residual.ensures.1 (search (conditions, c.in_err-kind.was))

pub read_subcondition-returns-then-left-eq0 : goal.read_subcondition-returns-then-left-eq0
read_subcondition-returns-then-left-eq0 t c = search (conditions, c.in_ok-kind.was)

pub read_subcondition-returns-in-And : goal.read_subcondition-returns-in-And
read_subcondition-returns-in-And t c = search (conditions, c.in_ok-kind.was, c.read_binary.ensures)

pub read_subcondition-returns-in-Not : goal.read_subcondition-returns-in-Not
read_subcondition-returns-in-Not t c = search (conditions, c.in_ok-kind.was, c.read_unary.ensures)

pub read_subcondition-returns-in-Formerly : goal.read_subcondition-returns-in-Formerly
read_subcondition-returns-in-Formerly t c = search (conditions, c.in_ok-kind.was, c.read_unary-in-Formerly.ensures)

pub read_subcondition-returns-in-Since : goal.read_subcondition-returns-in-Since
read_subcondition-returns-in-Since t c = search (conditions, c.in_ok-kind.was, c.read_binary-in-Since.ensures)

pub read_subcondition-returns-in-Predicate : goal.read_subcondition-returns-in-Predicate
read_subcondition-returns-in-Predicate t c = search (conditions, c.in_ok-kind.was)

pub read_subcondition-returns-in-Comparison : goal.read_subcondition-returns-in-Comparison
read_subcondition-returns-in-Comparison t c = search (conditions, c.in_ok-kind.was)

pub read_subcondition-returns-in-Exists : goal.read_subcondition-returns-in-Exists
read_subcondition-returns-in-Exists t c = search (conditions, c.in_ok-kind.was)

pub read_subcondition-returns-in-Timepoint : goal.read_subcondition-returns-in-Timepoint
read_subcondition-returns-in-Timepoint t c = search (conditions, c.in_ok-kind.was)

pub read_subcondition-returns-in-Call : goal.read_subcondition-returns-in-Call
read_subcondition-returns-in-Call t c = search (conditions, c.in_ok-kind.was)

pub read_term-returns-in_default : goal.read_term-returns-in_default
read_term-returns-in_default t c = search terms

pub read_term-returns-in_err-kind : goal.read_term-returns-in_err-kind
read_term-returns-in_err-kind t c = handed_on c.from_residual.ensures.1 (search (terms, c.in_err-kind.was))

pub read_term-returns-then-left-eq0 : goal.read_term-returns-then-left-eq0
read_term-returns-then-left-eq0 t c = search (terms, c.in_ok-kind.was)

pub read_term-returns-in-Entity : goal.read_term-returns-in-Entity
unfolding term_at
read_term-returns-in-Entity t c = search (terms, c.in_ok-kind.was, c.read_value.ensures)

pub read_term-returns-in-ContextField : goal.read_term-returns-in-ContextField
read_term-returns-in-ContextField t c = search (terms, c.in_ok-kind.was)

pub read_term-returns-in-Var : goal.read_term-returns-in-Var
read_term-returns-in-Var t c = search (terms, c.in_ok-kind.was)

pub read_term-returns-in-Array : goal.read_term-returns-in-Array
read_term-returns-in-Array t c = search (terms, c.in_ok-kind.was)

pub read_term-returns-in-Aggregate : goal.read_term-returns-in-Aggregate
read_term-returns-in-Aggregate t c = search (terms, c.in_ok-kind.was)

pub read_term-returns-in-Aggregate-2 : goal.read_term-returns-in-Aggregate-2
read_term-returns-in-Aggregate-2 t c = search (terms, c.in_ok-kind.was)

pub read_term-returns-in-Arith : goal.read_term-returns-in-Arith
read_term-returns-in-Arith t c = search (terms, c.in_ok-kind.was)

pub read_term-returns-in-Wildcard : goal.read_term-returns-in-Wildcard
read_term-returns-in-Wildcard t c = search (terms, c.in_ok-kind.was)
