-- The code's answers of a stepping check: how they and the bytes are outcomes of the definitions. Assumes nothing.
use Rattle.std.specs.Prelude.{List, ℕ}
use Rattle.typecheck.specs.Answers.{check_outcome_of}
use Rattle.steps.specs.declared.Stepped.{Stepped}
use Rattle.steps.specs.Steps.{SteppedOutcome}

-- what the code answers and leaves in the buffer, as an outcome; where no buffer is lent, there are no bytes
unfoldable pub stepped_of : Stepped → List ℕ → SteppedOutcome
stepped_of r s = record { check = check_outcome_of r.answer s; state = r.state }
