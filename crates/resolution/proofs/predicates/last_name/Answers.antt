use Rattle.resolution.proofs.Namespaces.{last_of_names}
use Rattle.resolution.proofs.predicates.last_name.Goals as goal

pub loop-init : goal.loop-init
loop-init c = search last_of_names

pub past_word-at-requires : goal.past_word-at-requires
past_word-at-requires c = search last_of_names

pub loop-preserved : goal.loop-preserved
loop-preserved c = search last_of_names

pub returns : goal.returns
returns c = search last_of_names
