use Rattle.rules.proofs.Judging.{likes}
use Rattle.rules.proofs.judge.unlike.Goals as goal

pub returns-then-compatible : goal.returns-then-compatible
returns-then-compatible c = search likes

pub returns : goal.returns
returns c = search likes
