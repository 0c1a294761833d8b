-- The word stands there as often as the loop has turned.
use Rattle.names.specs.Writer.{Stored}
use Rattle.types.specs.Words.{repeated}
use Rattle.types.proofs.texts.put_words.Given as goal

abbrev pub invariant-loop : goal.invariant-loop
invariant-loop l = Stored l.fn.buf l.at (repeated l.counter l.word) l.buf l.next
