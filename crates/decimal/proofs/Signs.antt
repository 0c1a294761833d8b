-- A magnitude with its sign: what the machine's signed numbers make of it, and whether 64 bits hold it. Assumes nothing.
use mathlib.Core.Path.{◌≡◌, refl}
use mathlib.Core.Bool.{Bool, true, false}
use Prim.Native.Nat.{ℕ, zero, suc, ◌≤◌, ◌<◌}
use native.Mathlib.Omega.{arith}
use lib.IntN.{pos, neg_ℤ}
use borrow.Author.Tests.{le-leb, lt-leb, lt-ltb, le-ltb}
use Rattle.decimal.specs.Decimal.{signed, in_range, held}
use Rattle.std.specs.Prelude.{Ok, Err}
use Rattle.names.specs.declared.refusal.Refusal.TheVariants.{DecimalOutOfRange}

pub held_down : (n : ℕ) → n ≤ 9223372036854775808 → Ok (neg_ℤ (pos n)) ≡ held (neg_ℤ (pos n))
unfolding held in_range
held_down zero h = refl
held_down (suc k) h = rw (le-leb k 9223372036854775807 (omega arith))

pub held_up : (n : ℕ) → n ≤ 9223372036854775807 → Ok (pos n) ≡ held (pos n)
unfolding held in_range
held_up n h = rw (lt-ltb n 9223372036854775808 (omega arith))

pub beyond_down : (n : ℕ) → 9223372036854775808 < n → Err DecimalOutOfRange ≡ held (neg_ℤ (pos n))
unfolding held in_range
beyond_down zero h = absurd (omega arith)
beyond_down (suc k) h = rw (lt-leb k 9223372036854775807 (omega arith))

pub beyond_up : (n : ℕ) → 9223372036854775807 < n → Err DecimalOutOfRange ≡ held (pos n)
unfolding held in_range
beyond_up n h = rw (le-ltb n 9223372036854775808 (omega arith))

-- far beyond, whatever the sign
pub beyond_far : (b : Bool) (n : ℕ) → 10000000000000000000 ≤ n → Err DecimalOutOfRange ≡ held (signed b n)
beyond_far true n h = beyond_down n (omega arith)
beyond_far false n h = beyond_up n (omega arith)
