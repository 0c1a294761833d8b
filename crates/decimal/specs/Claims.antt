-- What is claimed of decimals beyond each function's contract. Assumes nothing.
use Rattle.std.specs.Prelude.{ℕ, ◌≤◌, ◌≡◌, true, List, length, ℤ, Ok}
use Rattle.std.proofs.Common.{ap}
use Rattle.decimal.specs.Decimal.{well_formed, value_of, in_range, held, decimal_of, written, after_point}
use Rattle.decimal.specs.Laws.Written.{value_written, written_formed, written_four}
use Rattle.decimal.specs.Laws.Shortest.{written_least}

-- what is written is well formed, with four digits after the point
pub well_formed_lem : (z : ℤ) → well_formed (written z) ≡ true
well_formed_lem = written_formed

pub four_digits : (z : ℤ) → length (after_point (written z)) ≡ 4
four_digits = written_four

-- reading what was written gives the number
pub reads_back : (z : ℤ) → in_range z ≡ true → decimal_of (written z) ≡ Ok z
unfolding decimal_of held
reads_back z h = rw (written_formed z, value_written z, h)

-- a text that is read and written is the shortest with its value and four digits after the point
pub shortest : (w : List ℕ) → well_formed w ≡ true → length (after_point w) ≡ 4 → length (written (value_of w)) ≤ length w
shortest = written_least

-- and stays as it is from then on
pub normal : (w : List ℕ) → written (value_of (written (value_of w))) ≡ written (value_of w)
normal w = ap written (value_written (value_of w))
