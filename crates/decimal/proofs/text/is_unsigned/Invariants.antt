use Rattle.std.proofs.Common.{◌≡◌, drop}
use Rattle.decimal.specs.Decimal.{behind_digit}
use Rattle.decimal.proofs.text.is_unsigned.Given as goal

abbrev pub invariant-loop-i : goal.invariant-loop-i
invariant-loop-i l = behind_digit (drop l.i l.w) ≡ behind_digit l.w
