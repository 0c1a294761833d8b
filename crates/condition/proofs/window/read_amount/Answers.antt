-- `condition::window::read_amount` meets its contract. Assumes nothing.
use Rattle.names.specs.Laws.Readers.{handed_on}
use Rattle.condition.proofs.Windows.{amounts}
use Rattle.condition.proofs.window.read_amount.Goals as goal

pub returns-in_err-end : goal.returns-in_err-end
returns-in_err-end c = handed_on c.from_residual.ensures.1 (search (amounts, c.in_err-end.was))

pub word_at-requires : goal.word_at-requires
word_at-requires c = search (amounts, c.in_ok-end.was)

pub returns-then-fits : goal.returns-then-fits
returns-then-fits c = search (amounts, c.in_ok-end.was)

pub returns-else-fits : goal.returns-else-fits
returns-else-fits c = search (amounts, c.in_ok-end.was)
