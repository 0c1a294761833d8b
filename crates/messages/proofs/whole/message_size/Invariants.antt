use Rattle.messages.proofs.Wording.{Measuring}
use Rattle.messages.proofs.whole.message_size.Given as goal

-- what is left of the words, counted, makes the whole
abbrev pub invariant-loop-word : goal.invariant-loop-word
invariant-loop-word l = Measuring l.schema l.condition l.fn.m l.size l.word-index
