-- The library's test of a digit is the definition's. Assumes nothing.
use Rattle.decimal.specs.Decimal.{digit}
use Rattle.decimal.proofs.text.is_digit.Goals as goal

pub returns : goal.returns
unfolding digit
returns c = c.is_ascii_digit.ensures.value
