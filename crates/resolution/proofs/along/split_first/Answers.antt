-- `resolution::along::split_first` meets its contract. Assumes nothing.
use Rattle.resolution.specs.Laws.Segments.{splitting}
use Rattle.resolution.proofs.along.split_first.Goals as goal

pub returns-then-count-eq0 : goal.returns-then-count-eq0
returns-then-count-eq0 c = search splitting

pub past_word-requires : goal.past_word-requires
past_word-requires c = search splitting

pub invariant_of-result : goal.invariant_of-result
invariant_of-result c = search splitting

pub returns : goal.returns
returns c = search splitting
