-- What the first read gave lies in front of what the others did.
use Rattle.program.proofs.Taken.{taken}
use Rattle.program.proofs.read_on.Goals as goal

pub returns-in-Ok-clause-bytes : goal.returns-in-Ok-clause-bytes
returns-in-Ok-clause-bytes g c = taken _ _ _ _ _ _ _ _ c.in-Ok.ensures.bound.0 c.read_full.ensures.bound c.in-Ok.ensures.bytes.0 c.read_full.ensures.bytes
