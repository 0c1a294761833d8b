-- `nodes::leaves::next_leaf` meets its contract. What is left of the terms has the same leaves. Assumes nothing.
use Rattle.nodes.proofs.TermsLeft.{along_leaves}
use Rattle.nodes.proofs.leaves.next_leaf.Goals as goal

pub returns-then-count-eq0 : goal.returns-then-count-eq0
returns-then-count-eq0 c = search along_leaves

pub loop-at-init : goal.loop-at-init
loop-at-init c = search along_leaves

pub term_kind_at-requires : goal.term_kind_at-requires
term_kind_at-requires c = search along_leaves

pub left_part-at-requires : goal.left_part-at-requires
left_part-at-requires c = search along_leaves

pub overflow_add-further : goal.overflow_add-further
overflow_add-further c = search along_leaves

pub loop-at-preserved : goal.loop-at-preserved
loop-at-preserved c = search along_leaves

pub loop-at-smaller : goal.loop-at-smaller
loop-at-smaller c = search along_leaves

pub past_term-requires : goal.past_term-requires
past_term-requires c = search along_leaves

pub returns : goal.returns
returns c = search along_leaves
