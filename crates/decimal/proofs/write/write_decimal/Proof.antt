-- `decimal::write::write_decimal` meets its contract. Assumes nothing.
use mathlib.Core.Path.{◌≡◌}
use mathlib.Core.List.{List}
use Prim.Native.Nat.{ℕ, ◌<◌}
use borrow.Author.Rules.{rules}
use lib.ListN.{length}
use lib.IntN.{ℤ}
use mir.Syntax.{w64}
use mir.Val.{to_z, of_z, SFits}
use mir.ValLaws.{to_z-of_z}
use Rattle.reports.specs.Answers.{outcome_of, Refuses}
use Rattle.reports.specs.Placed.{placed, Writes, placed-fits, placed_not}
use Rattle.names.specs.Writer.{Stored}
use Rattle.reports.specs.declared.Answer.{Answer}
use Rattle.decimal.specs.Decimal.{written}
use Rattle.decimal.proofs.write.write_decimal.Statement.{statement}
use Rattle.decimal.proofs.write.write_decimal.Tie as tie

module _ (z : ℤ) (f : SFits w64 z) (b : List ℕ) where
  short : (size : ℕ) → size ≡ length (written (to_z w64 (of_z w64 z))) → length b < size → (a : Answer) → Refuses 11 0 a → outcome_of a b ≡ placed (written z) b
  short size is h a i = placed_not (written z) b (rw (← to_z-of_z w64 z f, ← is) h) a i

  long : (t : List ℕ) (r : ℕ) → Stored b 0 (written (to_z w64 (of_z w64 z))) t r → (a : Answer) → Writes r a → outcome_of a t ≡ placed (written z) b
  long t r i a w = placed-fits (written z) b t r (rw (to_z-of_z w64 z f) at i) a w

ruleset steps = (rules, short, long)

pub write_decimal_spec : {M : Type 1} → statement M
write_decimal_spec =
    tie.close
    (tie.spec
    (λ c κs. search steps)
    (λ c κs. search steps)
    (λ c. search steps)
    (λ c κs. search steps)
    (λ c κs. search steps)
    (λ c. search steps)
    (λ c. search steps))
