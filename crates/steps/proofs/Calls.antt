-- The start and a step: each exit by what the code learnt. Assumes nothing.
use mathlib.Core.Path.{◌≡◌, refl, ap, ◌∙◌}
use mathlib.Core.Bool.{Bool, true, false, cond}
use mathlib.Core.List.{List, []}
use mathlib.Core.Option.{Option, none, some}
use Prim.Native.Nat.{ℕ, ◌≤◌, ◌<◌}
use native.Mathlib.Omega.{arith}
use borrow.Author.Rules.{rules}
use borrow.Author.Tests.{eq-eqb, ne_eqb}
use lib.Dec.{eqb}
use Rattle.names.specs.Lists.{maybe}
use Rattle.schema.specs.Schema.{Schema}
use Rattle.condition.specs.Condition.{Condition}
use Rattle.targets.specs.Targets.{Target, Targets}
use Rattle.targets.specs.Places.{targets_in, is_target, target_in}
use Rattle.typecheck.specs.declared.CheckAnswer.{CheckAnswer}
use Rattle.typecheck.specs.Check.{Choices}
use Rattle.typecheck.specs.Answers.{check_outcome_of, Spared}
use Rattle.typecheck.specs.Run.{ReadAs, ReadRecords, Holds}
use Rattle.typecheck.specs.Laws.Reading.{accepted_reading}
use Rattle.typecheck.specs.declared.Records.{Records}
use Rattle.steps.specs.declared.Pending.{Pending}
use Rattle.steps.specs.declared.Steps.{Steps}
use Rattle.steps.specs.declared.Stepped.{Stepped}
use Rattle.steps.specs.Steps.{SteppedOutcome, first_pending, begins, start, so_far, done_with, doing, step_over, step}
use Rattle.steps.specs.Answers.{stepped_of}
use Rattle.steps.specs.Parts.{Answered, FindsPending, step_over_of}
use Rattle.std.specs.Prelude.{Some, None, Ok, Err}
use Rattle.std.specs.Prelude as code
use Rattle.typecheck.specs.declared.RefusedRecord.{RefusedRecord}
use Rattle.names.specs.Fields.{number_of}

-- ---- the records

module _ (s c n : List ℕ) (x : ReadRecords) (is : ReadAs s c n x) where
  held : {r : Records} → x ≡ Ok r → Holds s c n r
  held e = rw e at is

  module _ (rules : ℕ) (st : Steps) (i : st ≡ begins rules) where
    pub start_refused : (f : RefusedRecord) → x ≡ Err f → (a : Stepped) → Answered st (number_of f.refusal) f.«record» a → stepped_of a [] ≡ start rules s c n
    unfolding start
    start_refused f e a r = r.is [] ∙ rw (i, rw e at is)

    pub start_read : {r : Records} → x ≡ Ok r → (a : Stepped) → Answered st 0 0 a → stepped_of a [] ≡ start rules s c n
    unfolding start
    start_read e a r = r.is [] ∙ rw (i, accepted_reading s c n (held e).accepted)

  module _ (st : Steps) (b : List ℕ) where
    pub step_refused : (f : RefusedRecord) → x ≡ Err f → (a : Stepped) → Answered st (number_of f.refusal) f.«record» a → stepped_of a b ≡ step st s c n b
    unfolding step
    step_refused f e a r = r.is b ∙ rw (rw e at is)

    pub step_read : {r : Records} → x ≡ Ok r → (o : SteppedOutcome) → o ≡ step_over_of r st b → o ≡ step st s c n b
    unfolding step
    step_read {r} e o q = let h : Holds s c n r = held e in q ∙ rw (h.schema, h.condition, h.targets, accepted_reading s c n h.accepted)

-- ---- a step over records that were read

-- the target that was found
pub over_stands : (n : List ℕ) (o : Option (ℕ × Target)) (x : code.Option Pending) → FindsPending n o x → (p : Pending) → x ≡ Some p → is_target n p.at ≡ true
over_stands n o x f p e = rw e at f.stands

module _ (k : Choices) (s : Schema) (c : Condition) (n : List ℕ) (st : Steps) (b : List ℕ) where
  pub over_stopped : 0 < st.stopped → (o : SteppedOutcome) → o ≡ so_far st b → o ≡ step_over k s c (targets_in n) st b
  unfolding step_over
  over_stopped h o q = q ∙ rw (ne_eqb st.stopped 0 (λ z. omega arith))

  module _ (h : st.stopped ≤ 0) (x : code.Option Pending) (f : FindsPending n (first_pending st.marks 0 (targets_in n).list) x) where
    pub over_none : x ≡ None → (o : SteppedOutcome) → o ≡ so_far st b → o ≡ step_over k s c (targets_in n) st b
    unfolding step_over
    over_none e o q = let v : none ≡ first_pending st.marks 0 (targets_in n).list = rw e at f.value in q ∙ rw (eq-eqb st.stopped 0 (omega arith), ← v)

    pub over_done : (p : Pending) → x ≡ Some p → (o : SteppedOutcome) → o ≡ doing k s c (targets_in n).scope st b (p.position, target_in n p.at) → o ≡ step_over k s c (targets_in n) st b
    unfolding step_over
    over_done p e o q = let v : some (p.position, target_in n p.at) ≡ first_pending st.marks 0 (targets_in n).list = rw e at f.value in q ∙ rw (eq-eqb st.stopped 0 (omega arith), ← v)

-- ---- the workspace

pub spared_same : (a : CheckAnswer) (table : List ℕ) → Spared a table table
spared_same a table = record { same = λ h. refl }

-- a step over records that were read answers no record
no_record : (k : Choices) (s : Schema) (c : Condition) (ts : Targets) (st : Steps) (b : List ℕ) → (step_over k s c ts st b).check.outcome.answer.record_number ≡ 0
unfolding step_over so_far doing done_with
no_record k s c ts st b = go (eqb st.stopped 0) (first_pending st.marks 0 ts.list)
  where
    go : (t : Bool) (o : Option (ℕ × Target)) → (cond t (maybe (so_far st b) (doing k s c ts.scope st b) o) (so_far st b)).check.outcome.answer.record_number ≡ 0
    go false o = refl
    go true none = refl
    go true (some (i, t)) = refl

pub spared_stepped : (k : Choices) (s : Schema) (c : Condition) (ts : Targets) (st : Steps) (b : List ℕ) (a : Stepped) (t : List ℕ) → stepped_of a t ≡ step_over k s c ts st b → (old new : List ℕ) → Spared a.answer old new
unfolding stepped_of check_outcome_of
spared_stepped k s c ts st b a t e old new = record { same = λ h. absurd (h (ap (λ (o : SteppedOutcome). o.check.outcome.answer.record_number) e ∙ no_record k s c ts st b)) }

pub ruleset calls = (rules, start_refused, start_read, step_refused, step_read, over_stopped, over_none, over_stands, over_done, spared_same, spared_stepped)
