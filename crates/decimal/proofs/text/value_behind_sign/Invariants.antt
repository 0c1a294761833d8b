use Rattle.std.proofs.Common.{◌≡◌, ◌<◌, drop}
use Rattle.decimal.specs.Decimal.{ten_thousandths}
use Rattle.decimal.proofs.text.value_behind_sign.Given as goal

abbrev pub invariant-loop-i : goal.invariant-loop-i
invariant-loop-i l = (l.n < 1000000000000000) × (ten_thousandths l.n (drop l.i l.w) ≡ ten_thousandths 0 l.w)
