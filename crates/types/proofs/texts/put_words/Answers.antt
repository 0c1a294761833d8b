-- `types::texts::put_words` meets its contract. Assumes nothing.
use Rattle.std.proofs.Common.{arith, add-one, le_antisymm}
use Rattle.names.specs.Laws.Writers.{stored_none, stored_more}
use Rattle.types.specs.Words.{repeated}
use Rattle.types.proofs.Words.{repeated_room}
use Rattle.types.proofs.texts.put_words.Goals as goal

pub loop-init : goal.loop-init
unfolding repeated
loop-init c = stored_none c.args.buf.now c.args.at (omega arith)

pub put-next-requires : goal.put-next-requires
put-next-requires c =
    omega (arith, repeated_room c.loop.counter c.args.n c.args.word.now c.loop-test.true)

pub loop-preserved : goal.loop-preserved
unfolding repeated
loop-preserved c = rw add-one (stored_more c.loop.invariant c.put-next.ensures)

pub returns : goal.returns
returns c = rw (← le_antisymm c.loop.auto.counter-end c.loop-test.false) c.loop.invariant
