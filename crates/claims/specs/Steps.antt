-- The stepping check over whole histories: every sequence of steps, appended and withdrawn targets, accepted or refused, from a start that was accepted. The
-- reports, the answer and the visits are at each point those of one check over the targets done; nothing is written after 11; a refused call changes nothing; no
-- position moves. `proofs/Steps.antt` proves it.
use Rattle.std.specs.Prelude.{ℕ, ◌+◌, ◌≡◌, true, false, cond, List, [], ◌∷◌, ◌++◌, length, get_or, take, eqb}
use Rattle.names.specs.Fields.{got}
use Rattle.names.specs.Laws.Words.{Bytes}
use Rattle.schema.specs.Places.{schema_in}
use Rattle.condition.specs.Places.{record_in}
use Rattle.targets.specs.Targets.{Target, Targets}
use Rattle.targets.specs.Places.{targets_in}
use Rattle.targets.specs.Appending.{alone_target}
use Rattle.reports.specs.declared.Answer.{Answer}
use Rattle.reports.specs.Answers.{outcome_of}
use Rattle.typecheck.specs.Check.{CheckOutcome, check_with}
use Rattle.typecheck.specs.Answers.{check_outcome_of}
use Rattle.steps.specs.declared.Steps.{Steps}
use Rattle.steps.specs.declared.Stepped.{Stepped}
use Rattle.steps.specs.Steps.{pending, done, is_pending, start, step, append, withdraw, so_far}
use Rattle.steps.specs.Answers.{stepped_of}
use Rattle.claims.specs.Written.{written}
use Rattle.claims.specs.Breaches.{Accepted, SpaceForAll, Run, Exact, Claim, under}

-- ---- what a caller holds between two calls

-- the buffer of the list, of which so many bytes are record 3; the state; and the buffer of the reports
pub record Held : Type 0 where
  pub list : List ℕ
  pub size : ℕ
  pub state : Steps
  pub reports : List ℕ

-- record 3 as it stands, and what it holds
abbrev pub record_of : Held → List ℕ
record_of h = take h.size h.list

abbrev pub targets_of : Held → Targets
targets_of h = targets_in (record_of h)

-- the targets whose mark is `done`, in the order of their positions, of those that stand from a position on
unfoldable pub done_from : List ℕ → ℕ → List Target → List Target
done_from marks i [] = []
done_from marks i (t ∷ rest) = cond (eqb (get_or marks i pending) done) (t ∷ done_from marks (i + 1) rest) (done_from marks (i + 1) rest)

abbrev pub done_in : List ℕ → List Target → List Target
done_in marks list = done_from marks 0 list

-- the targets done, under the narrowing of record 3
abbrev pub done_by : Held → Targets
done_by h = under (targets_of h).scope (done_in h.state.marks (targets_of h).list)

-- the answer of the check so far, as a step gives it where it does nothing
abbrev pub check_so_far : Held → CheckOutcome
check_so_far h = (so_far h.state h.reports).check

-- ---- the calls, as the contracts of the exported functions have them; each is handed what the one before it left

module _ (schema_bytes condition_bytes : List ℕ) where
  -- a start at which no record is refused, with the caller's rules, and any buffer of reports to begin with. (Record 3 is given in bytes: no number in it is above 255)
  pub record StartOf (rules : ℕ) (old : List ℕ) (after : Held) : Type 0 where
    pub bytes : Bytes (record_of after)
    pub result : Stepped
    pub contract : stepped_of result [] ≡ start rules schema_bytes condition_bytes (record_of after)
    pub accepted : result.answer.record ≡ 0
    pub state : after.state ≡ result.state
    pub reports : after.reports ≡ old

  pub record StepOf (before after : Held) : Type 0 where
    pub result : Stepped
    pub buffer : List ℕ
    pub contract : stepped_of result buffer ≡ step before.state schema_bytes condition_bytes (record_of before) before.reports
    pub leaves : after ≡ record { list = before.list; size = before.size; state = result.state; reports = buffer }

  -- where a target is appended, so many bytes are record 3 as the count says
  pub record AppendOf (before after : Held) : Type 0 where
    pub new : List ℕ
    pub result : Answer
    pub buffer : List ℕ
    pub contract : outcome_of result buffer ≡ append before.list before.size new
    pub leaves : after
        ≡ record { list = buffer; size = cond (eqb result.number 0) result.count before.size; state = before.state; reports = before.reports }

  pub record WithdrawOf (before after : Held) : Type 0 where
    pub position : ℕ
    pub result : Stepped
    pub contract : stepped_of result [] ≡ withdraw before.state (record_of before) position
    pub leaves : after ≡ record { list = before.list; size = before.size; state = result.state; reports = before.reports }

  pub data Call (before after : Held) : Type 0 where
    steps : StepOf before after → Call before after
    appends : AppendOf before after → Call before after
    withdraws : WithdrawOf before after → Call before after

  -- any calls one after another
  pub data Calls (first : Held) : Held → Type 0 where
    none : Calls first first
    more : {before after : Held} → Calls first before → Call before after → Calls first after

  -- a history: a start, and what is held after any calls since
  pub record History (rules : ℕ) (old : List ℕ) (first now : Held) : Type 0 where
    pub start : StartOf rules old first
    pub calls : Calls first now

  -- ---- what is claimed

  module _ (rules : ℕ) (old : List ℕ) where
    -- record 3 is accepted, with the narrowing of the start, and so is the record of the targets done; the check so far is the check of that record, in the buffer
    -- as it was at the start
    pub record OneCheck (first now : Held) : Type 0 where
      pub accepted : Accepted schema_bytes condition_bytes (record_of now) (schema_in schema_bytes) (record_in condition_bytes) (targets_of now)
      pub scope : (targets_of now).scope ≡ (targets_of first).scope
      pub done : Accepted schema_bytes condition_bytes (written (done_by now)) (schema_in schema_bytes) (record_in condition_bytes) (done_by now)
      pub check : check_so_far now ≡ check_with rules schema_bytes condition_bytes (written (done_by now)) old

    -- what a step answers and leaves is that of the targets done with it
    abbrev pub EachStep : Held → Type 0
    EachStep before =
        (after : Held) (r : StepOf before after)
        → check_outcome_of r.result.answer after.reports ≡ check_with rules schema_bytes condition_bytes (written (done_by after)) old

    -- so what is held is what a run of the check over the targets done leaves, with the answer of the check so far; and what demand 3 claims of a run holds of it
    pub record AsRun (now : Held) : Type 0 where
      pub run : Run rules schema_bytes condition_bytes (written (done_by now))
      pub before : run.before ≡ old
      pub after : run.after ≡ now.reports
      pub answer : check_outcome_of run.answer now.reports ≡ check_so_far now
      pub claim : Claim rules schema_bytes condition_bytes (schema_in schema_bytes) (record_in condition_bytes)
      pub exact : SpaceForAll rules (schema_in schema_bytes) (record_in condition_bytes) (done_by now) old
          → Exact rules schema_bytes condition_bytes (schema_in schema_bytes) (record_in condition_bytes) (written (done_by now)) (done_by now) run

  -- whatever is called after a step that answered 11, every step answers 11 again and changes nothing at all
  abbrev pub After11 : Held → Type 0
  After11 before =
      (after : Held) (r : StepOf before after) → r.result.answer.number ≡ 11
      → (later last : Held) → Calls after later → (next : StepOf later last)
      → (next.result.answer.number ≡ 11) × (last ≡ later)

  -- a call that is refused changes nothing: a step where a record is refused, and any number but 0 of the others
  pub record Refused (before after : Held) : Type 0 where
    pub steps : (r : StepOf before after) → (r.result.answer.record ≡ 0 → ⊥) → after ≡ before
    pub appends : (r : AppendOf before after) → (r.result.number ≡ 0 → ⊥) → after ≡ before
    pub withdraws : (r : WithdrawOf before after) → (r.result.answer.number ≡ 0 → ⊥) → after ≡ before

  -- no position moves: the list before is a front of the list after, and what is done or withdrawn stays so
  pub record Stays (before after : Held) : Type 0 where
    pub others : List Target
    pub list : (targets_of after).list ≡ (targets_of before).list ++ others
    pub marks : (i : ℕ) → is_pending before.state.marks i ≡ false → get_or after.state.marks i pending ≡ get_or before.state.marks i pending

  -- what is done later comes behind what was done
  pub record InOrder (before after : Held) : Type 0 where
    pub since : List Target
    pub done : (done_by after).list ≡ (done_by before).list ++ since

  -- a target appended is read back as the last one, as it was given, and is pending
  pub record Appended (before after : Held) (new : List ℕ) : Type 0 where
    pub target : Target
    pub given : alone_target new 0 ≡ got target (length new)
    pub list : (targets_of after).list ≡ (targets_of before).list ++ (target ∷ [])
    pub waits : is_pending after.state.marks (length (targets_of before).list) ≡ true

  -- of every history
  pub record Stepping (rules : ℕ) (old : List ℕ) (first now : Held) : Type 0 where
    pub one_check : OneCheck rules old first now
    pub each_step : EachStep rules old now
    pub as_run : AsRun rules old now
    pub after11 : After11 now
    pub refused : (after : Held) → Refused now after
    pub stays : (after : Held) → Calls now after → Stays now after
    pub in_order : (after : Held) → Calls now after → InOrder now after
    pub appended : (after : Held) (r : AppendOf now after) → r.result.number ≡ 0 → Appended now after r.new

-- of all records, rules, buffers and histories
abbrev pub SteppingCheck : Type 0
SteppingCheck =
    (schema_bytes condition_bytes : List ℕ) (rules : ℕ) (old : List ℕ) (first now : Held)
    → History schema_bytes condition_bytes rules old first now → Stepping schema_bytes condition_bytes rules old first now
