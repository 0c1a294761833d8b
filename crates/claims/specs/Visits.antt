-- The number of visits, for hosts that bill by work: what it is with space for all reports, how large it is at most, where a run that lacks space stops, and that
-- it is 0 where a record is refused. `proofs/Visits.antt` proves it, for any rules.
use Rattle.std.specs.Prelude.{ℕ, suc, ◌-◌, ◌*◌, ◌≤◌, ◌≡◌, List, [], ◌∷◌, ◌++◌, length}
use Rattle.names.specs.Lists.{gather, select}
use Rattle.schema.specs.Schema.{Schema}
use Rattle.condition.specs.Condition.{Condition}
use Rattle.condition.specs.Walk.{reached}
use Rattle.targets.specs.Targets.{Targets}
use Rattle.reports.specs.Reports.{Breach, once, reported}
use Rattle.typecheck.specs.Check.{choices_of, is_checked, visits_under}
use Rattle.typecheck.specs.Run.{found_by}
use Rattle.claims.specs.Breaches.{Accepted, Run}

-- the number that a run answers whose visits find these breaches: 0 where all reports fit, and else 11
abbrev pub number_of : List ℕ → List Breach → ℕ
number_of buffer breaches = (reported (once [] breaches) buffer).answer.number

-- visits are made up to and including the one whose report does not fit: with those before it all reports fit, and with it they do not
pub record StopsAt (buffer : List ℕ) (visits : List (List Breach)) (n : ℕ) : Type 0 where
  pub before : List (List Breach)
  pub last : List Breach
  pub after : List (List Breach)
  pub split : visits ≡ before ++ (last ∷ after)
  pub fits : number_of buffer (found_by before) ≡ 0
  pub over : number_of buffer (found_by before ++ last) ≡ 11
  pub count : n ≡ suc (length before)

module _ (schema_bytes condition_bytes target_bytes : List ℕ) where
  module _ (s : Schema) (c : Condition) (ts : Targets) where
    -- all visits of a check with these rules, target by target and node by node
    abbrev pub visits_of : ℕ → List (List Breach)
    visits_of rules = gather (visits_under (choices_of rules) s c ts.scope) ts.list

    -- what is claimed of a run over accepted records
    pub record Visits (rules : ℕ) (r : Run rules schema_bytes condition_bytes target_bytes) : Type 0 where
      -- where all reports fit: (targets not skipped) × (reached conditions)
      pub product : r.answer.number ≡ 0 → r.answer.visits ≡ length (select (is_checked s ts.scope) ts.list) * length (reached c)
      -- visits × 9 is at most targets × (condition length - 5), whether they fit or not
      pub bound : r.answer.visits * 9 ≤ length ts.list * (length condition_bytes - 5)
      -- where one does not fit
      pub stops : r.answer.number ≡ 11 → StopsAt r.before (visits_of rules) r.answer.visits

    -- two runs with other rules: as many visits
    abbrev pub AnyRules : Type 0
    AnyRules = (own also : ℕ) (a : Run own schema_bytes condition_bytes target_bytes) (b : Run also schema_bytes condition_bytes target_bytes)
        → a.answer.number ≡ 0 → b.answer.number ≡ 0 → a.answer.visits ≡ b.answer.visits

    pub record Billed : Type 0 where
      pub visits : (rules : ℕ) (r : Run rules schema_bytes condition_bytes target_bytes) → Visits rules r
      pub any_rules : AnyRules

  -- of accepted records; and where a record is refused the number is 0
  pub record BilledOf : Type 0 where
    pub accepted : (s : Schema) (c : Condition) (ts : Targets) → Accepted schema_bytes condition_bytes target_bytes s c ts → Billed s c ts
    pub refused : (rules : ℕ) (r : Run rules schema_bytes condition_bytes target_bytes) → (r.answer.record ≡ 0 → ⊥) → r.answer.visits ≡ 0
