-- `decimal::text::is_unsigned` meets its contract: at `i`, what is left stands behind a digit just where the whole does. Assumes nothing.
use mathlib.Core.Path.{◌≡◌}
use mathlib.Core.List.{List}
use mathlib.Core.Bool.{Bool, true, false}
use Prim.Native.Nat.{ℕ, ◌+◌, ◌≤◌, ◌<◌, ◌-◌}
use lib.ListN.{length, take, drop, get_or}
use Rattle.decimal.proofs.Rest.{rest}
use borrow.Author.Tests.{eq-eqb, ne_eqb}
use Rattle.names.specs.Laws.Walks.{here, done}
use Rattle.decimal.specs.Decimal.{digit, fraction, behind_digit}
use borrow.Author.Rules.{rules}
use Rattle.decimal.proofs.text.is_unsigned.Goals as goal

module _ (s : List ℕ) (i : ℕ) (inv : behind_digit (drop i s) ≡ behind_digit s) where
  ended : length s ≤ i → false ≡ behind_digit s
  unfolding behind_digit
  ended h = rw (← inv, done s i h)

  module _ (h : i < length s) where
    point : get_or s i 0 ≡ 46 → (r : Bool) → r ≡ fraction (take (length s - (i + 1)) (drop (i + 1) s)) → r ≡ behind_digit s
    unfolding behind_digit
    point e r is = rw (← inv, here s i h, eq-eqb _ _ e, ← rest s (i + 1)) is

    module _ (n : get_or s i 0 ≡ 46 → ⊥) (b : Bool) (is : b ≡ digit (get_or s i 0)) where
      wrong : b ≡ false → false ≡ behind_digit s
      unfolding behind_digit
      wrong e = rw (← inv, here s i h, ne_eqb _ _ n, ← is, e)

      right : b ≡ true → behind_digit (drop (i + 1) s) ≡ behind_digit s
      unfolding behind_digit
      right e = rw (← inv, here s i h, ne_eqb _ _ n, ← is, e)

ruleset steps = (rules, ended, point, wrong, right)

pub returns-then-b-eq46 : goal.returns-then-b-eq46
returns-then-b-eq46 c = search steps

pub returns-then-not-is_digit : goal.returns-then-not-is_digit
returns-then-not-is_digit c = search steps

pub loop-i-preserved : goal.loop-i-preserved
loop-i-preserved c = search steps

pub returns : goal.returns
returns c = search steps
