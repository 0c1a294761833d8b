-- What the parts of a call ask and say. Assumes nothing.
use Rattle.std.specs.Prelude.{ℕ, ◌≤◌, ◌<◌, ◌≡◌, true, List, Some, None}
use Rattle.std.specs.Prelude as code
use Rattle.std.proofs.Math.Option.{Option, none, some}
use Rattle.targets.specs.Targets.{Target}
use Rattle.targets.specs.Places.{targets_in, is_target, target_in}
use Rattle.schema.specs.Places.{schema_in}
use Rattle.condition.specs.Places.{record_in}
use Rattle.reports.specs.declared.State.{State}
use Rattle.reports.specs.Sink.{sink, outcome}
use Rattle.typecheck.specs.declared.Records.{Records}
use Rattle.typecheck.specs.Check.{choices_of}
use Rattle.steps.specs.declared.Pending.{Pending}
use Rattle.steps.specs.declared.Steps.{Steps}
use Rattle.steps.specs.declared.Stepped.{Stepped}
use Rattle.steps.specs.Steps.{SteppedOutcome, unchanged, doing, step_over}
use Rattle.steps.specs.Answers.{stepped_of}

-- an answer without reports and visits, whatever bytes there are
pub record Answered (st : Steps) (number which : ℕ) (r : Stepped) : Type 0 where
  pub is : (s : List ℕ) → stepped_of r s ≡ unchanged st s number which

-- an answer of a check that holds these reports, whatever bytes there are
pub record Told (st : Steps) (held : State) (r : Stepped) : Type 0 where
  pub is : (s : List ℕ) → stepped_of r s ≡ record { check = record { outcome = outcome (sink s held); visits = st.visits }; state = st }

-- what the reports of the used bytes took before a target, and what they take after it: more only where they took all of these bytes
pub record Grown (used before after : ℕ) : Type 0 where
  pub more : before ≤ after
  pub behind : (before ≡ used → ⊥) → after ≡ before

-- the first pending target, by what the code found; it stands in the record
abbrev pub pending_in : List ℕ → code.Option Pending → Option (ℕ × Target)
pending_in n None = none
pending_in n (Some p) = some (p.position, target_in n p.at)

abbrev pub PendingStands : List ℕ → code.Option Pending → Type 0
PendingStands n None = Unit {0}
PendingStands n (Some p) = is_target n p.at ≡ true

pub record FindsPending (n : List ℕ) (o : Option (ℕ × Target)) (r : code.Option Pending) : Type 0 where
  pub value : pending_in n r ≡ o
  pub stands : PendingStands n r

-- a step over records that were read, by the rules of the state
abbrev pub step_over_of : Records → Steps → List ℕ → SteppedOutcome
step_over_of r st = step_over (choices_of st.rules) (schema_in r.schema.bytes.now) (record_in r.condition.bytes.now) (targets_in r.targets.bytes.now) st

-- a pending target of them done
abbrev pub doing_of : Records → Steps → List ℕ → Pending → SteppedOutcome
doing_of r st buffer p =
    doing (choices_of st.rules) (schema_in r.schema.bytes.now) (record_in r.condition.bytes.now) (targets_in r.targets.bytes.now).scope st buffer (p.position, target_in r.targets.bytes.now p.at)
