-- `walk::sorted::spot` meets its contract. The name of the entry in the middle is compared, and what is left stands on one side of it. Assumes nothing.
use Rattle.std.proofs.Common.{rules, arith, ◌+◌, ◌-◌, ◌/◌, ℕ}
use Rattle.walk.proofs.Spots.{go_up, found_spot, go_down}
use Rattle.walk.proofs.sorted.spot.Goals as goal

pub loop-low-preserved-in-Less : goal.loop-low-preserved-in-Less
loop-low-preserved-in-Less c =
    go_up _ _ _ _ _ c.loop-low.invariant c.requires (c.loop-low.low + (c.loop-low.high - c.loop-low.low) / 2) (search rules) (search rules) _ c.from.ensures _ c.name_of.ensures _ c.compare.ensures c.in-Less.is

pub returns-in-Equal : goal.returns-in-Equal
returns-in-Equal c =
    found_spot _ _ _ _ _ c.loop-low.invariant c.requires (c.loop-low.low + (c.loop-low.high - c.loop-low.low) / 2) (search rules) (search rules) _ c.from.ensures _ c.name_of.ensures _ c.compare.ensures c.in-Equal.is

pub loop-low-preserved : goal.loop-low-preserved
loop-low-preserved c =
    go_down _ _ _ _ _ c.loop-low.invariant c.requires (c.loop-low.low + (c.loop-low.high - c.loop-low.low) / 2) (search rules) (search rules) _ c.from.ensures _ c.name_of.ensures _ c.compare.ensures c.in-Greater.is
