-- `schema::read::read_action` meets its contract. Assumes nothing.
use Rattle.schema.proofs.Rows.{actions}
use Rattle.names.specs.Laws.Readers.{handed_on}
use Rattle.schema.proofs.read.read_action.Goals as goal

pub returns-in_err-n : goal.returns-in_err-n
returns-in_err-n c = handed_on c.from_residual.ensures.1 (search (actions, c.in_err-n.was))

pub returns-in_err-m : goal.returns-in_err-m
returns-in_err-m c = handed_on c.from_residual-in_err-m.ensures.1 (search (actions, c.in_ok-n.was, c.in_err-m.was))

pub returns-in_err-p : goal.returns-in_err-p
returns-in_err-p c = handed_on c.from_residual-in_err-p.ensures.1 (search (actions, c.in_ok-n.was, c.in_ok-m.was, c.in_err-p.was))

pub returns-in_err-q : goal.returns-in_err-q
returns-in_err-q c = handed_on c.from_residual-in_err-q.ensures.1 (search (actions, c.in_ok-n.was, c.in_ok-m.was, c.in_ok-p.was, c.in_err-q.was))

pub returns-then-action_follows : goal.returns-then-action_follows
returns-then-action_follows c = search (actions, c.in_ok-n.was, c.in_ok-m.was, c.in_ok-p.was, c.in_ok-q.was)

pub returns : goal.returns
returns c = search (actions, c.in_ok-n.was, c.in_ok-m.was)
