-- What the loops of the run ask and say: the three records that were read, a target with its visits, and the visits that are begun.
use Rattle.std.specs.Prelude.{ℕ, suc, ◌≡◌, true, cond, List, [], ◌∷◌, map, Some, None}
use Rattle.names.specs.Lists.{gather}
use Rattle.names.specs.Fields.{either, whole, number_of}
use Rattle.names.specs.Read.{Read}
use Rattle.types.specs.Types.{dated}
use Rattle.types.specs.declared.Profile.{Profile}
use Rattle.types.specs.Meaning.{profile_in}
use Rattle.schema.specs.Schema.{Schema, schema_record}
use Rattle.schema.specs.Places.{is_schema, schema_in, action_in, found_in}
use Rattle.condition.specs.Condition.{Condition, condition_record}
use Rattle.condition.specs.Places.{is_record, record_in}
use Rattle.walk.specs.Scopes.{nodes_by}
use Rattle.walk.specs.Enclosing.{binding_in}
use Rattle.walk.specs.declared.Binding.{Binding}
use Rattle.targets.specs.Targets.{Targets, target_record}
use Rattle.targets.specs.Places.{are_targets, targets_in, target_in}
use Rattle.terms.specs.declared.Common.{Common}
use Rattle.terms.specs.Facts.{scope_in}
use Rattle.reports.specs.Reports.{Breach}
use Rattle.reports.specs.declared.State.{State}
use Rattle.reports.specs.Sink.{Sink, sink, push_all}
use Rattle.reports.specs.Slots.{Pushed}
use Rattle.typecheck.specs.Check.{Choices, breaches_at, visits_under, CheckOutcome, checked}
use Rattle.typecheck.specs.declared.Progress.{Progress}
use Rattle.typecheck.specs.declared.Records.{Records}
use Rattle.typecheck.specs.declared.prepared.Run.{Run}
use Rattle.typecheck.specs.declared.prepared.Checked.{Checked}
use Rattle.typecheck.specs.declared.RefusedRecord.{RefusedRecord}
use Rattle.std.specs.Prelude as code

-- what the code answers of the three records: they are read, or one is refused
abbrev pub ReadRecords : Type 0
ReadRecords = code.Result Records RefusedRecord

-- the three records are accepted
pub record Accepted (s c n : List ℕ) : Type 0 where
  pub schema : is_schema s ≡ true
  pub condition : is_record c ≡ true
  pub targets : are_targets n ≡ true

-- what a reader answers of a record, with the number of the record where it is refused
abbrev pub of_record : Read → ℕ → code.Result ℕ RefusedRecord
of_record (code.Ok n) which = code.Ok n
of_record (code.Err r) which = code.Err (record { refusal = r; «record» = which })

-- these bytes are what the records hold, which are accepted
pub record Holds (s c n : List ℕ) (r : Records) : Type 0 where
  pub schema : r.schema.bytes.now ≡ s
  pub condition : r.condition.bytes.now ≡ c
  pub targets : r.targets.bytes.now ≡ n
  pub accepted : Accepted s c n

-- the three records read in their order: what they hold, or the first refusal, its number and its record
pub data Reading : Type 0 where
  refused : ℕ → ℕ → Reading
  read : Schema → Condition → Targets → Reading

unfoldable pub reading : List ℕ → List ℕ → List ℕ → Reading
reading s c n =
    either (λ r. refused r 1) (λ s. either (λ r. refused r 2) (λ c. either (λ r. refused r 3) (λ ts. read s c ts) (whole target_record n)) (whole condition_record c)) (whole schema_record s)

-- by cases on it
abbrev pub by_reading : {A : Type 0} → (ℕ → ℕ → A) → (Schema → Condition → Targets → A) → Reading → A
by_reading f g (refused number which) = f number which
by_reading f g (read s c ts) = g s c ts

-- what reading them says: they are accepted, or refused by this number and record
abbrev pub ReadAs : List ℕ → List ℕ → List ℕ → ReadRecords → Type 0
ReadAs s c n (code.Ok r) = Holds s c n r
ReadAs s c n (code.Err e) = reading s c n ≡ refused (number_of e.refusal) e.«record»

-- what the code's choices mean, and those that all targets have in common
abbrev pub choices_in : Profile → Binding → Choices
choices_in p b = record { profile = profile_in p; binding = binding_in b }

abbrev pub chosen_in : Common → Choices
chosen_in common = choices_in common.profile common.binding

-- the visits under all targets
abbrev pub all_visits : Choices → List ℕ → List ℕ → List ℕ → List (List Breach)
all_visits k s c n = gather (visits_under k (schema_in s) (record_in c) (targets_in n).scope) (targets_in n).list

-- what visits find, one behind the other
abbrev pub found_by : List (List Breach) → List Breach
found_by visits = gather (λ found. found) visits

-- how many visits are begun from a buffer with its state on: each one before which no report is missing
unfoldable pub begun_from : Sink → List (List Breach) → ℕ
begun_from s [] = 0
begun_from s (found ∷ rest) = cond s.state.full 0 (suc (begun_from (push_all s found) rest))

-- what a function does that makes visits: what they find is put in, and those that were begun are counted
pub record Visited (before : List ℕ) (st : State) (visits : List (List Breach)) (after : List ℕ) (r : Progress) (table : List ℕ) : Type 0 where
  pub pushed : Pushed before st (found_by visits) after r.state table
  pub counted : r.visits ≡ begun_from (sink before st) visits

-- ---- the same of records that were read

-- the visits under a target that is checked
abbrev pub visits_in : Checked → List (List Breach)
visits_in t =
    map (breaches_at dated (profile_in t.facts.common.profile) (schema_in t.run.records.schema.bytes.now) (scope_in t.run.records.targets.bytes.now t.facts) (found_in (action_in t.run.records.schema.bytes.now) t.facts.action))
    (nodes_by (binding_in t.facts.common.binding) (record_in t.run.records.condition.bytes.now))

-- the visits under the target at a place
abbrev pub target_visits : Choices → Records → ℕ → List (List Breach)
target_visits k r at =
    visits_under k (schema_in r.schema.bytes.now) (record_in r.condition.bytes.now) (targets_in r.targets.bytes.now).scope (target_in r.targets.bytes.now at)

-- the target at a place, or none where it is skipped
abbrev pub CheckedAt : Run → ℕ → code.Option Checked → Type 0
CheckedAt run at None = [] ≡ target_visits (chosen_in run.common) run.records at
CheckedAt run at (Some t) = visits_in t ≡ target_visits (chosen_in run.common) run.records at

-- the visits under all targets
abbrev pub all_visits_of : Choices → Records → List (List Breach)
all_visits_of k r = all_visits k r.schema.bytes.now r.condition.bytes.now r.targets.bytes.now

-- the check of them
abbrev pub checked_of : Choices → Records → List ℕ → CheckOutcome
checked_of k r = checked k (schema_in r.schema.bytes.now) (record_in r.condition.bytes.now) (targets_in r.targets.bytes.now)
