-- The code's answer: how it and the buffer's bytes are an outcome of the definitions. Assumes nothing.
use Rattle.std.specs.Prelude.{◌≡◌, List, [], ℕ}
use Rattle.std.proofs.Common.{ap, ◌∙◌}
use Rattle.reports.specs.declared.Answer.{Answer}
use Rattle.reports.specs.declared.State.{State}
use Rattle.reports.specs.Reports.{Breach, once, Outcome, refusal, reported}
use Rattle.reports.specs.Sink.{sink, none, Appended, outcome}
use Rattle.reports.specs.Slots.{Pushed}
use Rattle.reports.specs.Laws.Sinks.{push_all_reported, append_all_reported}

-- what the code answers and leaves in the buffer, as an outcome
unfoldable pub outcome_of : Answer → List ℕ → Outcome
outcome_of r s = record { answer = record { number = r.number; record_number = r.record; count = r.count }; buffer = s }

-- the code's answer for a state
pub record Answers (st : State) (r : Answer) : Type 0 where
  pub is : (s : List ℕ) → outcome_of r s ≡ outcome (sink s st)

-- the code's answer for a refusal
pub record Refuses (number which : ℕ) (r : Answer) : Type 0 where
  pub is : (s : List ℕ) → outcome_of r s ≡ refusal number which s

-- what an entry point says: breaches put in from no report, and the answer made of the state
module _ (old : List ℕ) {new : List ℕ} {st : State} {r : Answer} (bs : List Breach) where
  pub pushed : {table : List ℕ} → Pushed old none bs new st table → Answers st r → outcome_of r new ≡ reported (once [] bs) old
  pushed p a = a.is new ∙ ap outcome p.is ∙ push_all_reported old bs

  pub appended : Appended old none bs new st → Answers st r → outcome_of r new ≡ reported bs old
  appended p a = a.is new ∙ ap outcome p.is ∙ append_all_reported old bs
