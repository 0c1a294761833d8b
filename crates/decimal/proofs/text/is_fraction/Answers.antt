-- One to four digits: a shorter or longer text is no fraction. Assumes nothing.
use Rattle.std.proofs.Common.{◌≡◌, ◌<◌, ◌≤◌, arith, rules, length, false, ℕ, List, Bool}
use borrow.Author.Tests.{le-leb, lt-leb}
use mathlib.Core.Bool.{and-false}
use Rattle.names.specs.Lists.{every}
use Rattle.decimal.specs.Decimal.{digit, fraction}
use Rattle.decimal.proofs.text.is_fraction.Goals as goal

module _ (w : List ℕ) where
  short : length w < 1 → false ≡ fraction w
  unfolding fraction
  short h = rw (lt-leb _ _ h)

  module _ (h : 1 ≤ length w) where
    long : 5 ≤ length w → false ≡ fraction w
    unfolding fraction
    long l = rw (lt-leb (length w) 4 l, and-false)

    right : length w < 5 → (r : Bool) → r ≡ every digit w → r ≡ fraction w
    unfolding fraction
    right l r is = rw (le-leb _ _ h, le-leb (length w) 4 (omega arith)) is

ruleset steps = (rules, short, long, right)

pub returns-in-1-to-4 : goal.returns-in-1-to-4
returns-in-1-to-4 c = search steps

pub returns-in_default : goal.returns-in_default
returns-in_default c = search steps

pub returns-in_default-2 : goal.returns-in_default-2
returns-in_default-2 c = search steps
