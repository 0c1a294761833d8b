-- The index meets its contracts: the laws of `Filling` say for each kind what a call asks and what the answer is. Assumes nothing.
use Rattle.std.proofs.Common.{rules, arith, sym, ap, ◌∙◌}
use Rattle.nodes.specs.Kinds.{one_kind, two_kind, kind_number, term_kind_number, aggregate_kind_number}
use Rattle.nodes.specs.Laws.Inside.{aggregate_first}
use Rattle.nodes.specs.Laws.Numbers.{not_call, passed_over}
use Rattle.walk.proofs.Filling.{by_byte, two_first, two_next, two_filled, one_first, one_filled, comparison_first, comparison_next, comparison_filled, exists_first, exists_next, exists_filled, alone_filled, body_filled, call_filled, arith_first, arith_next, arith_filled, bare_filled}
use Rattle.walk.proofs.index.+index_index_operand.Goals as goal

ruleset steps = (rules, two_first, two_filled, one_first, one_filled, comparison_first, comparison_filled, exists_first, exists_next, exists_filled, alone_filled, aggregate_first, body_filled, call_filled, arith_first, arith_filled, bare_filled, passed_over)

pub index-index_operand-a-requires : goal.index-index_operand-a-requires
index-index_operand-a-requires t c = search steps

pub index-index_operand-requires : goal.index-index_operand-requires
index-index_operand-requires t c = (
  omega arith,
  (
    search (rules, comparison_next _ _ c.index_operand-a.ensures, sym c.kind_at-kind.ensures.kind ∙ ap kind_number c.in-Comparison.is),
    search rules,
  ),
)

pub index-past_binder-next-requires : goal.index-past_binder-next-requires
index-past_binder-next-requires t c = search steps

pub index-index-requires : goal.index-index-requires
index-index-requires t c = search steps

pub index-index-a-requires : goal.index-index-a-requires
index-index-a-requires t c = search steps

pub index-index-requires-in_default : goal.index-index-requires-in_default
index-index-requires-in_default t c =
    (omega arith, (search (rules, two_next _ _ c.index-a.ensures), search rules))

pub index-index-requires-in_default-2 : goal.index-index-requires-in_default-2
index-index-requires-in_default-2 t c = search steps

pub index-returns-in-Comparison : goal.index-returns-in-Comparison
index-returns-in-Comparison t c =
    search (rules, comparison_filled c.args.s.now c.args.at c.requires.at_value _ c.kind_at-kind.ensures _ c.first_part-left.ensures.value (ap kind_number c.in-Comparison.is))

pub index-returns-in-Exists : goal.index-returns-in-Exists
index-returns-in-Exists t c =
    search (rules, exists_filled c.args.s.now c.args.at c.requires.at_value _ c.kind_at-kind.ensures _ c.first_part.ensures.value (ap kind_number c.in-Exists.is) c.past_binder-next.ensures)

pub index-returns-in_default : goal.index-returns-in_default
index-returns-in_default t c =
    two_filled c.args.s.now c.args.at c.requires.at_value _ c.kind_at-kind.ensures _ c.first_part-in_default.ensures.value _ (by_byte two_kind _ _ _ c.from-byte.ensures c.has_two.ensures) c.if-has_two.true c.put.ensures c.index-a.ensures c.index-in_default.ensures

pub index-returns-in_default-2 : goal.index-returns-in_default-2
index-returns-in_default-2 t c =
    one_filled c.args.s.now c.args.at c.requires.at_value _ c.kind_at-kind.ensures _ c.first_part-in_default-2.ensures.value _ (by_byte one_kind _ _ _ c.from-byte.ensures c.has_one.ensures) c.if-has_one.true c.put.ensures c.index-in_default-2.ensures

pub index-returns-in_default-3 : goal.index-returns-in_default-3
index-returns-in_default-3 t c = search steps

pub index_operand-aggregate_kind_at-requires : goal.index_operand-aggregate_kind_at-requires
index_operand-aggregate_kind_at-requires t c = search steps

pub index_operand-returns-in-Call : goal.index_operand-returns-in-Call
index_operand-returns-in-Call t c =
    search (rules, call_filled c.args.s.now c.args.at c.requires.at_value _ c.term_kind_at.ensures _ c.term_part-aggregate.ensures.value (ap term_kind_number c.in-Aggregate.is) _ c.aggregate_kind_at.ensures (ap aggregate_kind_number c.in-Call.is))

pub index_operand-body_at-body-requires : goal.index_operand-body_at-body-requires
index_operand-body_at-body-requires t c = search steps

pub index_operand-index-requires : goal.index_operand-index-requires
index_operand-index-requires t c = search steps

pub index_operand-index_operand-a-requires : goal.index_operand-index_operand-a-requires
index_operand-index_operand-a-requires t c = search steps

pub index_operand-index_operand-requires : goal.index_operand-index_operand-requires
index_operand-index_operand-requires t c = (
  omega arith,
  (
    search (rules, arith_next _ _ c.index_operand-a.ensures, ap term_kind_number c.in-Arith.is),
    search rules,
  ),
)

pub index_operand-returns-in_default-aggregate_kind_at : goal.index_operand-returns-in_default-aggregate_kind_at
index_operand-returns-in_default-aggregate_kind_at t c =
    search (rules, body_filled c.args.s.now c.args.at c.requires.at_value _ c.term_kind_at.ensures _ c.term_part-aggregate.ensures.value (ap term_kind_number c.in-Aggregate.is) _ c.aggregate_kind_at.ensures (not_call _ c.in_default-aggregate_kind_at.not-Call))

pub index_operand-returns-in-Arith : goal.index_operand-returns-in-Arith
index_operand-returns-in-Arith t c =
    search (rules, arith_filled c.args.s.now c.args.at c.requires.at_value _ c.term_kind_at.ensures _ c.left_part.ensures.value (ap term_kind_number c.in-Arith.is))

pub index_operand-returns-in_default : goal.index_operand-returns-in_default
index_operand-returns-in_default t c = search steps
