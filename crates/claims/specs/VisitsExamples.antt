-- The examples of the number of visits, from the bytes of the records to the answer, under one statement, `Hold counted`: `told rules size schema condition targets`
-- is what a check with these rules answers that is lent a buffer of this size. `v` in the remarks is the number of visits.
use Rattle.std.specs.Prelude.{ℕ, zero, suc, List, [], ◌∷◌, ◌++◌, length}
use Rattle.names.specs.Text.{text}
use Rattle.typecheck.specs.Check.{check_with}
use Rattle.claims.specs.Rows.{Row, of_all}
use Rattle.claims.specs.WholeRun.{schema_bytes, target_bytes}

-- an answer
pub record Answered : Type 0 where
  pub number : ℕ
  pub record_number : ℕ
  pub count : ℕ
  pub visits : ℕ

abbrev pub answered : ℕ → ℕ → ℕ → ℕ → Answered
answered number record_number count visits = record { number = number; record_number = record_number; count = count; visits = visits }

-- a lent buffer of so many bytes
unfoldable pub lent : ℕ → List ℕ
lent zero = []
lent (suc n) = 0 ∷ lent n

abbrev pub told : ℕ → ℕ → List ℕ → List ℕ → List ℕ → Answered
told rules size schema condition targets =
    let o = check_with rules schema condition targets (lent size) in
    answered o.outcome.answer.number o.outcome.answer.record_number o.outcome.answer.count o.visits

-- ---- conditions

-- a record of one condition in version 1
abbrev pub of_condition : List ℕ → List ℕ
of_condition condition = 0x44 ∷ 0x57 ∷ 0x43 ∷ 0 ∷ 1 ∷ condition

-- a span of a start and an end below 256, and the one in which nothing is said
abbrev pub span : ℕ → ℕ → List ℕ
span start end = 0 ∷ 0 ∷ 0 ∷ start ∷ 0 ∷ 0 ∷ 0 ∷ end ∷ []

abbrev pub nowhere : List ℕ
nowhere = span 0 0

-- a call; a conjunction; a negation
abbrev pub call : List ℕ
call = 11 ∷ nowhere

abbrev pub both : List ℕ → List ℕ → List ℕ
both left right = 1 ∷ nowhere ++ left ++ right

abbrev pub negation : List ℕ → List ℕ
negation body = 3 ∷ nowhere ++ body

-- a comparison by `==`, and the one of an integer with a string, which is one breach
abbrev pub equal : List ℕ → List ℕ → List ℕ → List ℕ
equal at left right = 8 ∷ at ++ (4 ∷ left ++ right)

abbrev pub breach : List ℕ → List ℕ
breach at = equal at (2 ∷ []) (4 ∷ [])

-- `count` over a call
abbrev pub counting : List ℕ
counting = 11 ∷ 2 ∷ nowhere ++ (0 ∷ call)

-- a predicate whose one argument is such a count
abbrev pub asking : List ℕ
asking = 7 ∷ nowhere ++ nowhere ++ (0 ∷ 0 ∷ 1 ∷ 0 ∷ 0 ∷ counting)

-- ---- targets

-- a record of targets by their bytes, with a narrowing of the principal and so many targets
abbrev pub of_targets : ℕ → ℕ → List ℕ → List ℕ
of_targets principal many targets = 0x44 ∷ 0x57 ∷ 0x54 ∷ 0 ∷ 1 ∷ principal ∷ 0 ∷ many ∷ targets

abbrev pub target : List ℕ → List ℕ
target id = 0 ∷ length id ∷ id

-- a schema with the action `view`, which has no principal
abbrev pub no_principal : List ℕ
no_principal = (0x44 ∷ 0x57 ∷ 0x53 ∷ 0 ∷ 1 ∷ 0 ∷ 0 ∷ 0 ∷ 1 ∷ 6 ∷ text "Action") ++ (4 ∷ text "view") ++ (0 ∷ 0 ∷ 6 ∷ 0 ∷ [])

-- ---- the rows

abbrev pub counted : List Row
counted =
    -- one target, one condition; in the strict check as well
    of_all (Unit {0}) (λ x. told 0 200 schema_bytes (of_condition call) target_bytes) (answered 0 0 0 1)
    ∷ of_all (Unit {0}) (λ x. told 1 200 schema_bytes (of_condition call) target_bytes) (answered 0 0 0 1)
    -- a target listed twice counts twice
    ∷ of_all (Unit {0}) (λ x. told 0 200 schema_bytes (of_condition (negation call)) (of_targets 0 2 (target (text "v") ++ target (text "v")))) (answered 0 0 0 4)
    -- no target
    ∷ of_all (Unit {0}) (λ x. told 0 200 schema_bytes (of_condition call) (of_targets 0 0 [])) (answered 0 0 0 0)
    -- `view` has no principal under Any and is skipped; `edit` is not declared, and is not skipped
    ∷ of_all (Unit {0}) (λ x. told 0 200 no_principal (of_condition call) (of_targets 1 2 (target (text "view") ++ target (text "edit")))) (answered 0 0 0 1)
    -- the body of an aggregate in an argument is not reached; in an operand it is
    ∷ of_all (Unit {0}) (λ x. told 0 200 schema_bytes (of_condition asking) target_bytes) (answered 0 0 0 1)
    ∷ of_all (Unit {0}) (λ x. told 0 200 schema_bytes (of_condition (equal nowhere (2 ∷ []) counting)) target_bytes) (answered 0 0 0 2)
    -- v × 9 is targets × (length - 5) where each byte is that of a reached head: 27 = 1 × (32 - 5)
    ∷ of_all (Unit {0}) (λ x. told 0 200 schema_bytes (of_condition (both call call)) target_bytes) (answered 0 0 0 3)
    ∷ of_all (Unit {0}) (λ x. length (of_condition (both call call))) 32
    -- on 11 the visit whose report did not fit is counted, and none behind it
    ∷ of_all (Unit {0}) (λ x. told 0 0 schema_bytes (of_condition (both call (breach nowhere))) target_bytes) (answered 11 0 0 3)
    ∷ of_all (Unit {0}) (λ x. told 0 90 schema_bytes (of_condition (both (breach (span 1 0)) (breach (span 2 0)))) target_bytes) (answered 11 0 1 3)
    -- the second is a repeat, and a repeat never fails to fit
    ∷ of_all (Unit {0}) (λ x. told 0 85 schema_bytes (of_condition (both (breach (span 1 0)) (breach (span 1 9)))) target_bytes) (answered 0 0 1 3)
    -- nor is a target behind it visited
    ∷ of_all (Unit {0}) (λ x. told 0 0 schema_bytes (of_condition (breach nowhere)) (of_targets 0 2 (target (text "v") ++ target (text "w")))) (answered 11 0 0 1)
    -- where record 3 is refused
    ∷ of_all (Unit {0}) (λ x. told 0 200 schema_bytes (of_condition call) (of_targets 0 1 [])) (answered 2 3 0 0)
    ∷ []
