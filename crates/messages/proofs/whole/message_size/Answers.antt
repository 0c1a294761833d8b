-- `messages::whole::message_size` meets its contract. Assumes nothing.
use Rattle.std.proofs.Common.{◌≡◌, length, arith}
use Rattle.messages.proofs.Wording.{measuring}
use Rattle.messages.proofs.whole.message_size.Goals as goal

pub loop-word-init : goal.loop-word-init
loop-word-init c = search measuring

pub overflow_add-size : goal.overflow_add-size
overflow_add-size c = search measuring

pub loop-word-preserved : goal.loop-word-preserved
loop-word-preserved c = search measuring

pub returns : goal.returns
returns c = let four : length c.args.m.words ≡ 4 = omega arith in search measuring
