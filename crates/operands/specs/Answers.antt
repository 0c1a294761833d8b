-- What the code's answers stand for.
use Rattle.std.specs.Prelude.{ℕ, List, Result, Ok, Err}
use Rattle.nodes.specs.declared.ComparisonAt.{ComparisonAt}
use Rattle.operands.specs.Operands.{written, untyped, no_comparison, refused, Outcome}
use Rattle.operands.specs.Operands as Operands
use Rattle.operands.specs.declared.Operand.{Operand}
use Rattle.operands.specs.declared.Answer.{Answer}
use Rattle.typecheck.specs.declared.RefusedRecord.{RefusedRecord}
use Rattle.names.specs.Fields.{number_of}

-- the code's answer
abbrev pub Answered : Type 0
Answered = Result Answer RefusedRecord

abbrev pub answer_of : Answered → Operands.Answer
answer_of (Ok (Answer.Written n)) = written n
answer_of (Ok Answer.Untyped) = untyped
answer_of (Ok Answer.NoComparison) = no_comparison
answer_of (Err e) = refused (number_of e.refusal) e.«record»

-- with what the code leaves in the buffer
unfoldable pub outcome_of : Answered → List ℕ → Outcome
outcome_of r buffer = record { answer = answer_of r; buffer = buffer }

-- where an operand of a comparison stands
abbrev pub place_of : ComparisonAt → Operand → ℕ
place_of p Operand.Left = p.left
place_of p Operand.Right = p.right
