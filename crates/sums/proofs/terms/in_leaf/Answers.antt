-- `sums::terms::in_leaf` meets its contract. Assumes nothing.
use Rattle.std.proofs.Common.{ap}
use Rattle.nodes.specs.Kinds.{term_kind_number}
use Rattle.nodes.specs.Laws.Inside.{aggregate_inside}
use Rattle.nodes.specs.Laws.Numbers.{not_aggregate, not_sum}
use Rattle.sums.proofs.Visiting.{visits}
use Rattle.sums.proofs.terms.in_leaf.Goals as goal

pub returns-in_default : goal.returns-in_default
returns-in_default c = search (visits, not_aggregate)

pub aggregate_kind_at-requires : goal.aggregate_kind_at-requires
aggregate_kind_at-requires c = search visits

pub in_sum-requires-clause-at_value : goal.in_sum-requires-clause-at_value
in_sum-requires-clause-at_value c = search visits

pub returns-in-Sum : goal.returns-in-Sum
returns-in-Sum c =
    let here = aggregate_inside c.args.place.condition.bytes.now c.args.at c.requires.at_value c.term_part-aggregate.result c.term_part-aggregate.ensures.value _ c.term_kind_at.ensures (ap term_kind_number c.in-Aggregate.is) in
    search (visits, here)

pub returns-in_default-aggregate_kind_at : goal.returns-in_default-aggregate_kind_at
returns-in_default-aggregate_kind_at c =
    let here = aggregate_inside c.args.place.condition.bytes.now c.args.at c.requires.at_value c.term_part-aggregate.result c.term_part-aggregate.ensures.value _ c.term_kind_at.ensures (ap term_kind_number c.in-Aggregate.is) in
    search (visits, here, not_sum)
