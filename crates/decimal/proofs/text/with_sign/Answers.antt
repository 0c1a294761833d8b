-- `decimal::text::with_sign` meets its contract: what fits 64 bits is held. Assumes nothing.
use Rattle.std.proofs.Common.{◌≡◌, ◌<◌, ◌∙◌, rules, arith, ℕ, Bool, true, false, refl, pos, Result, Ok, Err, leb}
use Rattle.std.specs.Result.{OkIff, result_or}
use lib.IntN.{ℤ, neg_ℤ}
use mir.Syntax.{w64}
use mir.Val.{SFits}
use borrow.Author.Tests.{leb-true, leb-false}
use Rattle.names.specs.declared.refusal.Refusal.TheVariants.{DecimalOutOfRange}
use Rattle.decimal.specs.Decimal.{signed, held, Decimal}
use Rattle.decimal.proofs.Signs.{held_up, beyond_up}
use Rattle.decimal.proofs.text.with_sign.Goals as goal

module _ (b : Bool) (n : ℕ) where
  below : b ≡ true → (d : Decimal) → d ≡ held (neg_ℤ (pos n)) → d ≡ held (signed b n)
  below e d is = rw e is

  tried : b ≡ false → {E : Type 0} (r : Result ℤ E) → OkIff r (SFits w64 (pos n)) (pos n) → result_or r (Err DecimalOutOfRange) ≡ held (signed b n)
  tried e (Ok x) f = rw (e, f.1) (held_up n (omega (arith, f.0.sfits)))
  tried e (Err x) f = rw e (beyond_up n (go (leb n 9223372036854775807) refl))
    where
      go : (t : Bool) → leb n 9223372036854775807 ≡ t → 9223372036854775807 < n
      go true i = let l = leb-true _ _ i in absurd (f (record { sfits = omega arith }))
      go false i = leb-false _ _ i

pub returns-then-negative : goal.returns-then-negative
returns-then-negative c = search (rules, below)

pub returns : goal.returns
returns c = c.or.ensures ∙ tried _ _ c.if-negative.false c.try_from.result c.try_from.ensures
