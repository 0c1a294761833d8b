-- `decimal::text::negated` meets its contract: what fits 64 bits below zero is held. Assumes nothing.
use Rattle.std.proofs.Common.{◌≡◌, ◌<◌, rules, arith, ℕ, Bool, true, false, refl, pos, leb, ℤ, ◌-ℤ◌, FitsSigned, w64}
use Rattle.std.proofs.lemmas.Int.{ints}
use Rattle.std.specs.Prelude.{Option, Some, None, neg_ℤ}
use Rattle.std.specs.Option.{SomeIff, ok_or}
use borrow.Author.Tests.{leb-true, leb-false}
use Rattle.names.specs.declared.refusal.Refusal.TheVariants.{DecimalOutOfRange}
use Rattle.decimal.specs.Decimal.{held}
use Rattle.decimal.proofs.Signs.{held_down, beyond_down}
use Rattle.decimal.proofs.text.negated.Goals as goal

same : (n : ℕ) → pos 0 -ℤ pos n ≡ neg_ℤ (pos n)
same n = omega (arith, ints)

tried : (n : ℕ) (r : Option ℤ) → SomeIff r (FitsSigned w64 (pos 0 -ℤ pos n)) (pos 0 -ℤ pos n) → ok_or r DecimalOutOfRange ≡ held (neg_ℤ (pos n))
tried n (Some x) f = rw (f.1, same n) (held_down n (omega (arith, ints, f.0.sfits)))
tried n None f = beyond_down n (go (leb n 9223372036854775808) refl)
  where
    go : (t : Bool) → leb n 9223372036854775808 ≡ t → 9223372036854775808 < n
    go true i = let l = leb-true _ _ i in absurd (f (record { sfits = omega (arith, ints) }))
    go false i = leb-false _ _ i

pub returns : goal.returns
returns c = search (rules, tried)
