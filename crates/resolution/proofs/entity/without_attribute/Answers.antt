use Rattle.resolution.proofs.OneType.{own}
use Rattle.resolution.proofs.entity.without_attribute.Goals as goal

pub returns-then-rest-eq0 : goal.returns-then-rest-eq0
returns-then-rest-eq0 c = search own

pub returns-then-is_part : goal.returns-then-is_part
returns-then-is_part c = search own

pub returns : goal.returns
returns c = search own
