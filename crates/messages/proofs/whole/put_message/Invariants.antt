use Rattle.reports.specs.Laws.Messages.{Composing}
use Rattle.messages.specs.Words.{quoted}
use Rattle.messages.proofs.whole.put_message.Given as goal

-- what is written, and what is left of the message, make the whole
abbrev pub invariant-loop-i : goal.invariant-loop-i
invariant-loop-i l = Composing l.m.which (quoted l.schema l.condition l.m) l.initial.out l.start l.out l.at l.i
