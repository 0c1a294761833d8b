use Rattle.std.proofs.Common.{◌≡◌, List, ℕ, ◌+◌, ◌<◌, ◌≤◌, length, Bool, true, false, ◌&&◌, get_or, drop}
use Rattle.names.specs.Lists.{every}
use Rattle.names.specs.Names.{plain, plain_byte}
use Rattle.names.specs.Laws.Walks.{here, done}
use Rattle.names.proofs.classes.is_plain.Goals as goal

module _ (s : List ℕ) (i : ℕ) (inv : plain (drop i s) ≡ plain s) where
  -- the byte at `i` and what is left behind it decide together
  turn : i < length s → (b : Bool) → b ≡ plain_byte (get_or s i 0) → (b && plain (drop (i + 1) s)) ≡ plain s
  unfolding plain every
  turn h b is = rw (← inv, here s i h, is)

  ends : length s ≤ i → true ≡ plain s
  unfolding plain every
  ends h = rw (← inv, done s i h)

pub returns-then-not-is_plain_byte : goal.returns-then-not-is_plain_byte
returns-then-not-is_plain_byte c = turn c.args.s.now c.loop-b.b-index c.loop-b.invariant c.loop-b-test.true false c.if-not-is_plain_byte.ensures

pub loop-b-preserved : goal.loop-b-preserved
loop-b-preserved c = turn c.args.s.now c.loop-b.b-index c.loop-b.invariant c.loop-b-test.true true c.if-not-is_plain_byte.ensures

pub returns : goal.returns
returns c = ends c.args.s.now c.loop-b.b-index c.loop-b.invariant c.loop-b-test.false
