use Rattle.std.proofs.Common.{◌≡◌, drop}
use Rattle.reports.specs.Slots.{mixed_bytes}
use Rattle.reports.proofs.slots.mix_bytes.Given as goal

-- the bytes that are left, mixed in, make the whole
abbrev pub invariant-loop-byte : goal.invariant-loop-byte
invariant-loop-byte l = mixed_bytes l.by l.mixed (drop l.byte-index l.bytes) ≡ mixed_bytes l.by l.h l.bytes
