-- The examples of the stepping check, from the bytes of the records to the answers, under one statement, `Hold stepped`: `told size schema condition targets calls`
-- is what the start and each call answer, `number record count`, where the report buffer has this size and the list's buffer has room for 16 bytes more.
use Rattle.std.specs.Prelude.{ℕ, ◌+◌, ◌-◌, List, [], ◌∷◌, ◌++◌, length, take, replicate}
use Rattle.names.specs.Text.{text}
use Rattle.steps.specs.declared.Steps.{Steps}
use Rattle.steps.specs.Steps.{SteppedOutcome, start, step, append, withdraw}
use Rattle.claims.specs.Rows.{Row, of_all}
use Rattle.claims.specs.VisitsExamples.{of_condition, both, of_targets, target}

-- ---- calls in turn

pub data Call : Type 0 where
  stepping : Call
  appending : List ℕ → Call
  withdrawing : ℕ → Call

-- what the caller holds: record 3, the state and the report buffer
pub record Held : Type 0 where
  pub list : List ℕ
  pub state : Steps
  pub buffer : List ℕ

-- what a call answers: number, record, count
pub record Said : Type 0 where
  pub number : ℕ
  pub record_number : ℕ
  pub count : ℕ

abbrev pub says : ℕ → ℕ → ℕ → Said
says number record_number count = record { number = number; record_number = record_number; count = count }

abbrev pub said_by : SteppedOutcome → Said
said_by o = says o.check.outcome.answer.number o.check.outcome.answer.record_number o.check.outcome.answer.count

-- (where a target is refused, the count is 0 and the list stays)
unfoldable pub answers : List ℕ → List ℕ → Held → List Call → List Said
answers schema condition h [] = []
answers schema condition h (stepping ∷ rest) =
    let o = step h.state schema condition h.list h.buffer in
    said_by o ∷ answers schema condition (record { list = h.list; state = o.state; buffer = o.check.outcome.buffer }) rest
answers schema condition h (appending new ∷ rest) =
    let o = append (h.list ++ replicate 16 0) (length h.list) new in
    says o.answer.number o.answer.record_number o.answer.count
    ∷ answers schema condition (record { list = take (length h.list + (o.answer.count - length h.list)) o.buffer; state = h.state; buffer = h.buffer }) rest
answers schema condition h (withdrawing i ∷ rest) =
    let o = withdraw h.state h.list i in
    said_by o ∷ answers schema condition (record { list = h.list; state = o.state; buffer = h.buffer }) rest

abbrev pub told : ℕ → List ℕ → List ℕ → List ℕ → List Call → List Said
told size schema condition targets calls =
    let o = start 0 schema condition targets in
    said_by o ∷ answers schema condition (record { list = targets; state = o.state; buffer = replicate size 0 }) calls

-- ---- records

-- bytes that no record begins with
abbrev pub spoilt : List ℕ
spoilt = 0x58 ∷ 0x58 ∷ 0x58 ∷ []

abbrev pub no_entries : List ℕ
no_entries = 0x44 ∷ 0x57 ∷ 0x53 ∷ 0 ∷ 1 ∷ 0 ∷ 0 ∷ 0 ∷ 0 ∷ []

-- the action `v`, which has no principal
abbrev pub no_principal : List ℕ
no_principal = (0x44 ∷ 0x57 ∷ 0x53 ∷ 0 ∷ 1 ∷ 0 ∷ 0 ∷ 0 ∷ 1 ∷ 6 ∷ text "Action") ++ (1 ∷ 0x76 ∷ 0 ∷ 0 ∷ 6 ∷ 0 ∷ [])

-- `true < 1` from a start below 256 on: one report of 85 bytes
abbrev pub breach : ℕ → List ℕ
breach at = 8 ∷ 0 ∷ 0 ∷ 0 ∷ at ∷ 0 ∷ 0 ∷ 0 ∷ at ∷ 1 ∷ 5 ∷ 2 ∷ []

abbrev pub one : List ℕ
one = of_condition (breach 0)

abbrev pub two : List ℕ
two = of_condition (both (breach 0) (breach 1))

-- targets without a namespace, by their ids
abbrev pub v : List ℕ
v = of_targets 0 1 (target (text "v"))

abbrev pub vw : List ℕ
vw = of_targets 0 2 (target (text "v") ++ target (text "w"))

abbrev pub nobody : List ℕ
nobody = of_targets 0 0 []

-- so many targets with an empty id
abbrev pub nameless : ℕ → List ℕ
nameless n = of_targets 0 n (replicate (n + n) 0)

-- ---- the rows

abbrev pub stepped : List Row
stepped =
    -- a record that does not read is refused at each step, and withdrawing reads record 3 alone
    of_all (Unit {0}) (λ x. told 100 no_entries spoilt v (stepping ∷ [])) (says 3 2 0 ∷ says 3 2 0 ∷ [])
    ∷ of_all (Unit {0}) (λ x. told 100 spoilt spoilt v (stepping ∷ withdrawing 0 ∷ [])) (says 3 1 0 ∷ says 3 1 0 ∷ says 0 0 0 ∷ [])
    -- one step does one target, also one that is skipped; the count is that of the check so far
    ∷ of_all (Unit {0}) (λ x. told 100 no_principal one (of_targets 1 2 (target (text "v") ++ target (text "w"))) (stepping ∷ withdrawing 0 ∷ stepping ∷ [])) (says 0 0 0 ∷ says 0 0 0 ∷ says 19 0 0 ∷ says 0 0 1 ∷ [])
    ∷ of_all (Unit {0}) (λ x. told 200 no_entries one vw (stepping ∷ stepping ∷ [])) (says 0 0 0 ∷ says 0 0 1 ∷ says 0 0 1 ∷ [])
    -- where none is pending a step answers the same again, and one that is appended then is done
    ∷ of_all (Unit {0}) (λ x. told 100 no_entries one v (stepping ∷ stepping ∷ [])) (says 0 0 0 ∷ says 0 0 1 ∷ says 0 0 1 ∷ [])
    ∷ of_all (Unit {0}) (λ x. told 100 no_entries one nobody (stepping ∷ appending (target (text "v")) ∷ stepping ∷ [])) (says 0 0 0 ∷ says 0 0 0 ∷ says 0 0 11 ∷ says 0 0 1 ∷ [])
    -- after 11 every step answers 11: no further target is done, and the one at which it was met is; appending and withdrawing go on
    ∷ of_all (Unit {0}) (λ x. told 84 no_entries one vw (stepping ∷ stepping ∷ withdrawing 1 ∷ withdrawing 0 ∷ appending (target (text "x")) ∷ stepping ∷ [])) (says 0 0 0 ∷ says 11 0 0 ∷ says 11 0 0 ∷ says 0 0 0 ∷ says 19 0 0 ∷ says 0 0 17 ∷ says 11 0 0 ∷ [])
    ∷ of_all (Unit {0}) (λ x. told 85 no_entries one v (stepping ∷ stepping ∷ [])) (says 0 0 0 ∷ says 0 0 1 ∷ says 0 0 1 ∷ [])
    ∷ of_all (Unit {0}) (λ x. told 169 no_entries two v (stepping ∷ stepping ∷ [])) (says 0 0 0 ∷ says 11 0 1 ∷ says 11 0 1 ∷ [])
    -- a target that is appended is refused as record 3 by 2, 6 or 10
    ∷ of_all (Unit {0}) (λ x. told 0 no_entries one v (appending [] ∷ [])) (says 0 0 0 ∷ says 2 3 0 ∷ [])
    ∷ of_all (Unit {0}) (λ x. told 0 no_entries one v (appending (0 ∷ []) ∷ [])) (says 0 0 0 ∷ says 2 3 0 ∷ [])
    ∷ of_all (Unit {0}) (λ x. told 0 no_entries one v (appending (1 ∷ 0x20 ∷ []) ∷ [])) (says 0 0 0 ∷ says 6 3 0 ∷ [])
    ∷ of_all (Unit {0}) (λ x. told 0 no_entries one v (appending (0 ∷ 1 ∷ 0x22 ∷ []) ∷ [])) (says 0 0 0 ∷ says 6 3 0 ∷ [])
    ∷ of_all (Unit {0}) (λ x. told 0 no_entries one v (appending (0 ∷ 2 ∷ 0x22 ∷ []) ∷ [])) (says 0 0 0 ∷ says 2 3 0 ∷ [])
    ∷ of_all (Unit {0}) (λ x. told 0 no_entries one v (appending (0 ∷ 0 ∷ 0 ∷ []) ∷ [])) (says 0 0 0 ∷ says 10 3 0 ∷ [])
    ∷ of_all (Unit {0}) (λ x. told 0 no_entries one v (appending (0 ∷ 0 ∷ []) ∷ [])) (says 0 0 0 ∷ says 0 0 13 ∷ [])
    -- and before 18, which counts those that were withdrawn as well
    ∷ of_all (Unit {0}) (λ x. told 0 no_entries one (nameless 255) (appending (1 ∷ 0x20 ∷ 0 ∷ []) ∷ withdrawing 254 ∷ appending (0 ∷ 0 ∷ []) ∷ [])) (says 0 0 0 ∷ says 6 3 0 ∷ says 0 0 0 ∷ says 18 0 0 ∷ [])
    ∷ of_all (Unit {0}) (λ x. told 0 no_entries one (nameless 254) (appending (0 ∷ 0 ∷ []) ∷ appending (0 ∷ 0 ∷ []) ∷ [])) (says 0 0 0 ∷ says 0 0 518 ∷ says 18 0 0 ∷ [])
    -- 11 where the list's buffer has no room for it, which does not stop the check
    ∷ of_all (Unit {0}) (λ x. told 100 no_entries one v (appending (target (text "fifteen letters")) ∷ stepping ∷ [])) (says 0 0 0 ∷ says 11 0 0 ∷ says 0 0 1 ∷ [])
    -- a pending target is withdrawn by its position, which never moves; 19 where it is done, withdrawn or absent
    ∷ of_all (Unit {0}) (λ x. told 100 no_entries one vw (withdrawing 0 ∷ withdrawing 0 ∷ withdrawing 2 ∷ stepping ∷ withdrawing 1 ∷ [])) (says 0 0 0 ∷ says 0 0 0 ∷ says 19 0 0 ∷ says 19 0 0 ∷ says 0 0 1 ∷ says 19 0 0 ∷ [])
    ∷ of_all (Unit {0}) (λ x. told 100 no_entries one v (withdrawing 0 ∷ stepping ∷ appending (target (text "v")) ∷ withdrawing 0 ∷ stepping ∷ [])) (says 0 0 0 ∷ says 0 0 0 ∷ says 0 0 0 ∷ says 0 0 14 ∷ says 19 0 0 ∷ says 0 0 1 ∷ [])
    ∷ of_all (Unit {0}) (λ x. told 0 no_entries one v (withdrawing 255 ∷ [])) (says 0 0 0 ∷ says 19 0 0 ∷ [])
    ∷ []
