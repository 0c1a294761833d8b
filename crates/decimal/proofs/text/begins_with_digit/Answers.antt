-- `decimal::text::begins_with_digit` meets its contract. Assumes nothing.
use mathlib.Core.Path.{◌≡◌, refl}
use mathlib.Core.List.{List, [], ◌∷◌}
use mathlib.Core.Bool.{Bool, true, false}
use Prim.Native.Nat.{ℕ, ◌-◌, ◌<◌, ◌≤◌}
use native.Mathlib.Omega.{arith}
use lib.ListN.{length, take, drop, get_or}
use Rattle.decimal.proofs.Rest.{rest}
use Rattle.decimal.specs.Decimal.{digit, behind_digit, begins_with_digit}
use borrow.Author.Rules.{rules}
use Rattle.decimal.proofs.text.begins_with_digit.Goals as goal

empty : (w : List ℕ) → length w < 1 → false ≡ begins_with_digit w
unfolding begins_with_digit
empty [] e = refl
empty (b ∷ w) e = absurd (omega arith)

other : (w : List ℕ) → 1 ≤ length w → (b : Bool) → b ≡ digit (get_or w 0 0) → b ≡ false → b ≡ begins_with_digit w
unfolding begins_with_digit
other [] n b is e = absurd (omega arith)
other (x ∷ w) n b is e = rw (← is, e)

more : (w : List ℕ) → 1 ≤ length w → (b : Bool) → b ≡ digit (get_or w 0 0) → b ≡ true
    → (r : Bool) → r ≡ behind_digit (take (length w - 1) (drop 1 w)) → r ≡ begins_with_digit w
unfolding begins_with_digit
more [] n b is e r q = absurd (omega arith)
more (x ∷ w) n b is e r q = rw (← is, e, ← rest (x ∷ w) 1) q

ruleset steps = (rules, empty, other, more)

pub returns-in-empty : goal.returns-in-empty
returns-in-empty c = search steps

pub returns-then-is_digit : goal.returns-then-is_digit
returns-then-is_digit c = search steps

pub returns-else-is_digit : goal.returns-else-is_digit
returns-else-is_digit c = search steps
