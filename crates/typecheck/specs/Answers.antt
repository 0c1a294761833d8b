-- The code's answer of a check: how it and the buffer's bytes are an outcome of the definitions. Assumes nothing.
use Rattle.std.specs.Prelude.{◌≡◌, List, ℕ}
use Rattle.reports.specs.declared.Answer.{Answer}
use Rattle.reports.specs.Answers.{outcome_of}
use Rattle.typecheck.specs.declared.CheckAnswer.{CheckAnswer}
use Rattle.typecheck.specs.Check.{CheckOutcome}

-- what the code answers and leaves in the buffer, as an outcome
unfoldable pub check_outcome_of : CheckAnswer → List ℕ → CheckOutcome
check_outcome_of r s =
    record {
      outcome = record { answer = record { number = r.number; record_number = r.record; count = r.count }; buffer = s };
      visits = r.visits;
    }

-- the answer of any run, with so many visits
pub record WithVisits (a : Answer) (visits : ℕ) (r : CheckAnswer) : Type 0 where
  pub is : (s : List ℕ) → check_outcome_of r s ≡ record { outcome = outcome_of a s; visits = visits }

-- what is lent as workspace alone is as it was where a record is refused
pub record Spared (r : CheckAnswer) (old new : List ℕ) : Type 0 where
  pub same : (r.record ≡ 0 → ⊥) → new ≡ old
