use Rattle.resolution.proofs.Admitted.{tagging, type_one}
use Rattle.resolution.proofs.scope.scope_type.Goals as goal

pub returns-in_err-p-clause-by_index : goal.returns-in_err-p-clause-by_index
returns-in_err-p-clause-by_index c = search tagging

pub returns-then-is_some-clause-by_index : goal.returns-then-is_some-clause-by_index
returns-then-is_some-clause-by_index c = search tagging

pub returns-then-is_some-clause-by_index_2 : goal.returns-then-is_some-clause-by_index_2
returns-then-is_some-clause-by_index_2 c = search tagging

pub returns-clause-by_index : goal.returns-clause-by_index
returns-clause-by_index c =
    type_one _ _ _ _ _ c.next_admitted.ensures _ _ c.in_ok-p.was _ c.next_admitted-2.ensures
    _ c.is_some.ensures _ c.if-is_some.false _ c.from-2.ensures c.tag_at.ensures.by_index

pub returns-clause-by_index_2 : goal.returns-clause-by_index_2
returns-clause-by_index_2 c = search (tagging, c.tag_at.ensures.short)
