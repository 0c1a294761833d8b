-- Examples of version 2, from the bytes of the records to the answer, under one statement, `Hold lines`: of a check under the target `view`, of Sums,
-- and of readers that know fewer versions or more.
use Rattle.std.specs.Prelude.{ℕ, zero, suc, List, [], ◌∷◌, ◌++◌}
use Rattle.names.specs.Fields.{whole, digits}
use Rattle.names.specs.Read.{refusal_number}
use Rattle.condition.specs.Condition.{condition_record_up_to}
use Rattle.reports.specs.Reports.{Outcome}
use Rattle.typecheck.specs.Check.{check}
use Rattle.sums.specs.Sums.{sums}
use Rattle.claims.specs.Rows.{Row, of_all}
use Rattle.claims.specs.WholeRun.{schema_bytes, target_bytes}

-- an answer: number, record, count
pub record Answered : Type 0 where
  pub number : ℕ
  pub which : ℕ
  pub count : ℕ

abbrev pub answered : Outcome → Answered
answered o = record { number = o.answer.number; which = o.answer.record_number; count = o.answer.count }

abbrev pub accepted : Answered
accepted = record { number = 0; which = 0; count = 0 }

abbrev pub refused : ℕ → Answered
refused n = record { number = n; which = 2; count = 0 }

-- a condition record of a version, of which the higher byte is 0
abbrev pub of_version : ℕ → List ℕ → List ℕ
of_version version bytes = 0x44 ∷ 0x57 ∷ 0x43 ∷ 0 ∷ version ∷ bytes

-- what a check, and Sums, answers to a condition in a version
abbrev pub checks : ℕ → List ℕ → Answered → Row
checks version bytes answer = of_all (Unit {0}) (λ x. answered (check schema_bytes (of_version version bytes) target_bytes []).outcome) answer

abbrev pub adds : ℕ → List ℕ → Answered → Row
adds version bytes answer = of_all (Unit {0}) (λ x. answered (sums (of_version version bytes) [])) answer

-- a span, a kind and a span, a Call
abbrev pub spanned : List ℕ → List ℕ
spanned rest = 0 ∷ 0 ∷ 0 ∷ 0 ∷ 0 ∷ 0 ∷ 0 ∷ 0 ∷ rest

abbrev pub node : ℕ → List ℕ → List ℕ
node kind rest = kind ∷ spanned rest

abbrev pub call : List ℕ
call = node 11 []

-- a window of an amount of a unit, and what stands behind it; -1 as 64 bits hold it
abbrev pub within : ℕ → ℕ → List ℕ → List ℕ
within amount unit rest = 0 ∷ unit ∷ (digits 8 amount ++ rest)

abbrev pub minus_one : ℕ
minus_one = 18446744073709551615

-- so many Formerly over a Call, each with a parameter
unfoldable pub nested : ℕ → List ℕ
nested zero = call
nested (suc n) = node 4 (1 ∷ nested n)

-- an argument of a predicate: a count whose body this is, which the walk does not reach
abbrev pub unreached : List ℕ → List ℕ
unreached body = node 7 (spanned (0 ∷ 0 ∷ 1 ∷ 0 ∷ 0 ∷ 11 ∷ node 2 (0 ∷ body)))

-- a reader that knows versions up to a newest one, and its number for a Call in a version; 0 for none
abbrev pub reads : ℕ → ℕ → ℕ → Row
reads newest version answer = of_all (Unit {0}) (λ x. refusal_number (whole (condition_record_up_to newest) (of_version version call))) answer

abbrev pub lines : List Row
lines =
    -- the window stands behind the span of Formerly, Previous and Since, in version 2 alone
    checks 2 (node 4 (within 90 1 call)) accepted
    ∷ checks 2 (node 5 (within 90 1 call)) accepted
    ∷ checks 2 (node 6 (within 2 0 (call ++ call))) accepted
    ∷ checks 2 (node 6 (call ++ within 2 0 call)) (refused 5)
    ∷ checks 2 (node 3 call) accepted
    ∷ checks 1 (node 4 call) accepted
    ∷ checks 2 (node 4 call) (refused 5)
    -- its fields: a choice, a unit, an amount
    ∷ checks 2 (node 4 []) (refused 2)
    ∷ checks 2 (node 4 (2 ∷ [])) (refused 5)
    ∷ checks 2 (node 4 (0 ∷ 4 ∷ [])) (refused 5)
    ∷ checks 2 (node 4 (within minus_one 4 call)) (refused 5)
    ∷ checks 2 (node 4 (0 ∷ 0 ∷ 255 ∷ 255 ∷ 255 ∷ 255 ∷ 255 ∷ 255 ∷ 255 ∷ [])) (refused 2)
    ∷ checks 2 (node 4 (within minus_one 0 [])) (refused 13)
    -- and then no visit is begun
    ∷ of_all (Unit {0}) (λ x. (check schema_bytes (of_version 2 (node 4 (within minus_one 0 call))) target_bytes []).visits) 0
    ∷ checks 2 (node 4 (1 ∷ call)) accepted
    -- its seconds, exactly
    ∷ checks 2 (node 4 (within 0 3 call)) accepted
    ∷ checks 2 (node 4 (within 9223372036854775807 0 call)) accepted
    ∷ checks 2 (node 4 (within 9223372036854775808 0 call)) (refused 13)
    ∷ checks 2 (node 4 (within 153722867280912930 1 call)) accepted
    ∷ checks 2 (node 4 (within 153722867280912931 1 call)) (refused 13)
    ∷ checks 2 (node 4 (within 2562047788015215 2 call)) accepted
    ∷ checks 2 (node 4 (within 2562047788015216 2 call)) (refused 13)
    ∷ checks 2 (node 4 (within 106751991167300 3 call)) accepted
    ∷ checks 2 (node 4 (within 106751991167301 3 call)) (refused 13)
    ∷ checks 2 (node 4 (within 9223372036854775807 3 call)) (refused 13)
    -- 13 also where the walk does not go, of Sums too; a window adds no level
    ∷ checks 2 (unreached (node 5 (within minus_one 0 call))) (refused 13)
    ∷ adds 2 (unreached (node 5 (within minus_one 0 call))) (refused 13)
    ∷ adds 2 (unreached (node 5 (within 9 0 call))) accepted
    ∷ checks 2 (nested 31) accepted
    ∷ checks 2 (nested 32) (refused 7)
    -- a reader of version 1 alone gives version 2 number 4
    ∷ reads 1 2 4
    ∷ reads 1 1 0
    ∷ reads 2 2 0
    ∷ reads 2 3 4
    ∷ reads 2 0 4
    ∷ checks 4 call (refused 4)
    ∷ []
