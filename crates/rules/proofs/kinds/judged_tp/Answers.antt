use Rattle.rules.proofs.AtNode.{tps}
use Rattle.rules.proofs.kinds.judged_tp.Goals as goal

pub returns : goal.returns
returns c = search tps

pub timepoint-finding-requires : goal.timepoint-finding-requires
timepoint-finding-requires c = search tps
