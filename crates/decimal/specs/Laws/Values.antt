-- The number that a text stands for. Assumes nothing.
use Rattle.std.specs.Prelude.{List, [], ◌∷◌, Bool, true, false, cond, ℕ, ◌+◌, ◌*◌, ◌≤◌, ◌-◌, eqb}
use Rattle.std.proofs.Common.{arith}
use Rattle.decimal.specs.Decimal.{with_fraction, ten_thousandths}

of_cond : (b : Bool) (m x y : ℕ) → m ≤ x → m ≤ y → m ≤ cond b x y
of_cond true m x y h k = h
of_cond false m x y h k = k

-- the digits that were read are worth as much by themselves
pub at_least : (n : ℕ) (w : List ℕ) → n * 10000 ≤ ten_thousandths n w
unfolding ten_thousandths with_fraction
at_least n [] = omega arith
at_least n (b ∷ w) =
    of_cond (eqb b 46) (n * 10000) (with_fraction n w) (ten_thousandths (n * 10 + (b - 48)) w) (omega arith) (omega (arith, at_least (n * 10 + (b - 48)) w))
