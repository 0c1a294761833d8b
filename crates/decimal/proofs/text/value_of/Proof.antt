-- `decimal::text::value_of` meets its contract. Assumes nothing.
use mathlib.Core.Path.{◌≡◌}
use mathlib.Core.List.{List}
use mathlib.Core.Bool.{Bool, true, false}
use Prim.Native.Nat.{ℕ}
use Rattle.decimal.specs.Decimal.{minus, unsigned, begins_with_digit, well_formed, ten_thousandths, signed, held, value_of, decimal_of, Decimal}
use borrow.Author.Rules.{rules}
use Rattle.decimal.proofs.text.value_of.Statement.{statement}
use Rattle.decimal.proofs.text.value_of.Tie as tie
use Rattle.std.specs.Prelude.{Err}
use Rattle.names.specs.declared.refusal.Refusal.TheVariants.{MalformedDecimal}

module _ (w u : List ℕ) (e : u ≡ unsigned w) (b : Bool) (is : b ≡ begins_with_digit u) where
  good : b ≡ true → (neg : Bool) → neg ≡ minus w → (d : Decimal) → d ≡ held (signed neg (ten_thousandths 0 u)) → d ≡ decimal_of w
  unfolding decimal_of well_formed value_of
  good t neg n d q = rw (← n, ← e, ← is, t) q

  bad : b ≡ false → Err MalformedDecimal ≡ decimal_of w
  unfolding decimal_of well_formed
  bad t = rw (← e, ← is, t)

ruleset steps = (rules, good, bad)

pub value_of_spec : {M : Type 1} → statement M
value_of_spec =
    tie.close
    (tie.spec
    (λ c κs. search steps)
    (λ c κs. search steps)
    (λ c κs. search steps)
    (λ c κs. search steps)
    (λ c. search steps)
    (λ c. search steps))
