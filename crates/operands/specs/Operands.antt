-- The type of an operand of the comparison that a condition is, under one target of a list.
use Rattle.std.specs.Prelude.{ℕ, cond, List, ◌++◌, length, drop, leb}
use Rattle.std.proofs.Math.Option.{Option, none, some}
use Rattle.names.specs.Lists.{maybe}
use Rattle.names.specs.Fields.{either, whole}
use Rattle.types.specs.Types.{Ty, plain, render}
use Rattle.schema.specs.Schema.{Schema, schema_record}
use Rattle.schema.specs.Find.{find_action}
use Rattle.targets.specs.Targets.{Target, Targets, target_record}
use Rattle.targets.specs.PathRecord.{target_at}
use Rattle.condition.specs.Condition.{Condition, Term, one, two, predicate, comparison, exists, tp, opaque, condition_record}
use Rattle.terms.specs.Terms.{Facts, facts_of, term_type}
use Rattle.operands.specs.declared.Operand.{Operand}

-- what is answered
pub data Answer : Type 0 where
  -- the type's text stands at the front of the buffer, so many bytes
  written : ℕ → Answer
  -- the operand has no type, and the condition is no comparison
  untyped no_comparison : Answer
  -- document 01's number of the cause, and that of the record
  refused : ℕ → ℕ → Answer

-- the answer, and the buffer after it
pub record Outcome : Type 0 where
  pub answer : Answer
  pub buffer : List ℕ

-- an answer that leaves the buffer as it was
abbrev pub leaving : Answer → List ℕ → Outcome
leaving a buffer = record { answer = a; buffer = buffer }

abbrev pub operand_of : Operand → Term → Term → Term
operand_of Operand.Left l r = l
operand_of Operand.Right l r = r

-- the operand of a comparison; another condition has none
unfoldable pub operand_in : Operand → Condition → Option Term
operand_in which (one k span c) = none
operand_in which (two k span l r) = none
operand_in which (predicate span own ns name args) = none
operand_in which (comparison span op l r) = some (operand_of which l r)
operand_in which (exists span b c) = none
operand_in which (tp span s) = none
operand_in which (opaque span) = none

-- a text at the front of the buffer and how many bytes it has, or 11 and the buffer as it was
unfoldable pub placed : List ℕ → List ℕ → Outcome
placed w buffer =
    cond (leb (length w) (length buffer))
    (record { answer = written (length w); buffer = w ++ drop (length w) buffer })
    (leaving (refused 11 0) buffer)

-- the text of a type, where there is one
abbrev pub shown : Option Ty → List ℕ → Outcome
shown none buffer = leaving untyped buffer
shown (some t) buffer = placed (render t) buffer

-- the operand of a condition under the facts of a target: its `term_type`, rendered
unfoldable pub answered : Operand → Condition → Facts → List ℕ → Outcome
answered which c f buffer =
    maybe (leaving no_comparison buffer) (λ t. shown (term_type (some f) t) buffer) (operand_in which c)

-- under a target: its action is looked up, and need not admit an environment. No type depends on the profile
unfoldable pub under_target : Schema → Condition → Targets → Operand → List ℕ → Target → Outcome
under_target s c ts which buffer t = answered which c (facts_of plain s c ts.scope (find_action s t.namespace t.id)) buffer

-- under the target at a position: 12 where the list has no such position
unfoldable pub at_position : Schema → Condition → Targets → ℕ → Operand → List ℕ → Outcome
at_position s c ts position which buffer =
    maybe (leaving (refused 12 3) buffer) (under_target s c ts which buffer) (target_at position ts.list)

-- records 1, 2 and 3 in this order, each to its end; then the target, then the operand
unfoldable pub operand_type : List ℕ → List ℕ → List ℕ → ℕ → Operand → List ℕ → Outcome
operand_type schema_bytes condition_bytes target_bytes position which buffer =
    either (λ r. leaving (refused r 1) buffer)
    (λ s. either (λ r. leaving (refused r 2) buffer)
    (λ c. either (λ r. leaving (refused r 3) buffer) (λ ts. at_position s c ts position which buffer) (whole target_record target_bytes))
    (whole condition_record condition_bytes))
    (whole schema_record schema_bytes)
