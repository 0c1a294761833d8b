-- What a read gave lies behind what lay there before.
use Rattle.std.proofs.Common.{rules}
use Rattle.program.proofs.Taken.{taken}
use Rattle.program.proofs.read_full.Goals as goal

pub loop-done-preserved : goal.loop-done-preserved
loop-done-preserved g c = (search rules, search rules, taken _ _ _ _ _ _ _ _ c.loop-done.invariant.1 c.in-Ok.ensures.bound.0 c.loop-done.invariant.2 c.in-Ok.ensures.bytes.0)
