-- `reports::slots::mix_bytes` meets its contract. Assumes nothing.
use Rattle.std.proofs.Common.{◌≡◌, ℕ, ◌+◌, ◌<◌, ◌≤◌, List, length, get_or, drop, rules}
use Rattle.names.specs.Laws.Walks.{here, done}
use Rattle.reports.specs.Slots.{mixed, mixed_bytes}
use Rattle.reports.proofs.slots.mix_bytes.Goals as goal

module _ (by m whole : ℕ) (s : List ℕ) (at : ℕ) (so_far : mixed_bytes by m (drop at s) ≡ whole) where
  byte_in : at < length s → (b m' : ℕ) → b ≡ get_or s at 0 → m' ≡ mixed by m b → mixed_bytes by m' (drop (at + 1) s) ≡ whole
  unfolding mixed_bytes
  byte_in l b m' e is = rw (is, e) (rw (here s at l) at so_far)

  all_in : length s ≤ at → m ≡ whole
  unfolding mixed_bytes
  all_in l = rw (done s at l) at so_far

ruleset steps = (rules, byte_in, all_in)

pub loop-byte-preserved : goal.loop-byte-preserved
loop-byte-preserved c = search steps

pub returns : goal.returns
returns c = search steps
