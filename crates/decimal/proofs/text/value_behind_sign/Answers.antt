-- `decimal::text::value_behind_sign` meets its contract: at `i`, the digits before it as `n` and what is left decide the value. Assumes nothing.
use mathlib.Core.Path.{◌≡◌}
use mathlib.Core.List.{List, []}
use mathlib.Core.Bool.{Bool}
use Prim.Native.Nat.{ℕ, ◌+◌, ◌*◌, ◌≤◌, ◌<◌, ◌-◌}
use native.Mathlib.Omega.{arith}
use lib.ListN.{length, take, drop, get_or}
use borrow.Author.Tests.{eq-eqb, ne_eqb}
use Rattle.names.specs.Laws.Walks.{here, done}
use Rattle.decimal.specs.Decimal.{with_fraction, ten_thousandths, signed, held, Decimal}
use Rattle.decimal.proofs.Rest.{rest}
use Rattle.decimal.proofs.Signs.{beyond_far}
use Rattle.decimal.specs.Laws.Values.{at_least}
use borrow.Author.Rules.{rules}
use Rattle.std.specs.Prelude.{Err}
use Rattle.names.specs.declared.refusal.Refusal.TheVariants.{DecimalOutOfRange}
use Rattle.decimal.proofs.text.value_behind_sign.Goals as goal

module _ (neg : Bool) (s : List ℕ) (i n : ℕ) (inv : ten_thousandths n (drop i s) ≡ ten_thousandths 0 s) where
  ended : length s ≤ i → (d : Decimal) → d ≡ held (signed neg (n * 10000)) → d ≡ held (signed neg (ten_thousandths 0 s))
  unfolding ten_thousandths with_fraction
  ended h d is =
      let e : ten_thousandths n [] ≡ n * 10000 = omega arith in
      rw (← inv, done s i h, e) is

  module _ (h : i < length s) where
    point : get_or s i 0 ≡ 46 → (m : ℕ) → m ≡ with_fraction n (take (length s - (i + 1)) (drop (i + 1) s)) → (d : Decimal) → d ≡ held (signed neg m) → d ≡ held (signed neg (ten_thousandths 0 s))
    unfolding ten_thousandths
    point e m is d q = rw (← inv, here s i h, eq-eqb _ _ e, ← rest s (i + 1), ← is) q

    module _ (ne : get_or s i 0 ≡ 46 → ⊥) (v : ℕ) (is : (v ≡ get_or s i 0 - 48) × (v < 208)) where
      turn : ten_thousandths (n * 10 + v) (drop (i + 1) s) ≡ ten_thousandths 0 s
      unfolding ten_thousandths
      turn = rw (← inv, here s i h, ne_eqb _ _ ne, is.0)

      far : 1000000000000000 ≤ n * 10 + v → Err DecimalOutOfRange ≡ held (signed neg (ten_thousandths 0 s))
      far l = rw (← turn) (beyond_far neg (ten_thousandths (n * 10 + v) (drop (i + 1) s)) (omega (arith, at_least (n * 10 + v) (drop (i + 1) s))))

ruleset steps = (rules, ended, point, turn, far)

pub returns-then-b-eq46 : goal.returns-then-b-eq46
returns-then-b-eq46 c = search steps

pub returns-then-n-ge1000000000000000 : goal.returns-then-n-ge1000000000000000
returns-then-n-ge1000000000000000 c = search steps

pub loop-i-preserved : goal.loop-i-preserved
loop-i-preserved c = search steps

pub returns : goal.returns
returns c = search steps
