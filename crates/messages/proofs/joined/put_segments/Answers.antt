-- `messages::joined::put_segments` meets its contract. Assumes nothing.
use Rattle.std.proofs.Common.{◌≡◌, ◌+◌, ◌-◌, ◌<◌, ◌≤◌, arith}
use Rattle.std.proofs.Math.Nat.{sub-zero}
use Rattle.messages.specs.Laws.Segments.{segments}
use Rattle.messages.proofs.joined.put_segments.Goals as goal

pub loop-init : goal.loop-init
loop-init c = rw (sub-zero c.args.count) (search segments)

pub put_behind-next-requires : goal.put_behind-next-requires
put_behind-next-requires c = let left : 0 < c.args.count - c.loop.counter = omega arith in search segments

pub past_word-at-requires : goal.past_word-at-requires
past_word-at-requires c = let left : 0 < c.args.count - c.loop.counter = omega arith in search segments

pub loop-preserved : goal.loop-preserved
loop-preserved c =
    let left : 0 < c.args.count - c.loop.counter = omega arith in
    let one_less : c.args.count - (c.loop.counter + 1) ≡ c.args.count - c.loop.counter - 1 = omega arith in
    rw one_less (search segments)

pub returns : goal.returns
returns c = let over : c.args.count - c.loop.counter ≤ 0 = omega arith in search segments
