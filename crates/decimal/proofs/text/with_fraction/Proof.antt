-- `decimal::text::with_fraction` meets its contract. Assumes nothing.
use mathlib.Core.Path.{◌≡◌}
use mathlib.Core.List.{List}
use Prim.Native.Nat.{ℕ, ◌+◌, ◌*◌, ◌<◌}
use Rattle.decimal.specs.Decimal.{digit_at, with_fraction}
use borrow.Author.Rules.{rules}
use Rattle.decimal.proofs.text.with_fraction.Statement.{statement}
use Rattle.decimal.proofs.text.with_fraction.Tie as tie

sum : (n : ℕ) (w : List ℕ) (a b c d : ℕ) → (a ≡ digit_at w 0) × (a < 208) → (b ≡ digit_at w 1) × (b < 208) → (c ≡ digit_at w 2) × (c < 208) → (d ≡ digit_at w 3) × (d < 208)
    → n * 10000 + (a * 1000 + b * 100 + c * 10 + d) ≡ with_fraction n w
unfolding with_fraction
sum n w a b c d ha hb hc hd = rw (ha.0, hb.0, hc.0, hd.0)

ruleset steps = (rules, sum)

pub with_fraction_spec : {M : Type 1} → statement M
with_fraction_spec =
    tie.close
    (tie.spec
    (λ c. search steps)
    (λ c κs. search steps)
    (λ c. search steps)
    (λ c κs. search steps)
    (λ c. search steps)
    (λ c. search steps)
    (λ c κs. search steps)
    (λ c. search steps)
    (λ c. search steps)
    (λ c κs. search steps)
    (λ c. search steps)
    (λ c. search steps)
    (λ c. search steps))
