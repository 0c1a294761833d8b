-- Examples of the listing of windows, from the bytes of the record to the answer and the entries, under one statement, `Hold swept`: `lists period size
-- bytes` is what a listing in sweeps of this period writes of a condition in version 2 that is lent a buffer of this size.
use Rattle.std.specs.Prelude.{ℕ, ◌*◌, List, [], ◌∷◌, ◌++◌, length, take}
use Rattle.names.specs.Lists.{gather}
use Rattle.names.specs.Fields.{digits}
use Rattle.sweeps.specs.Entries.{Entry, encoded}
use Rattle.sweeps.specs.Windows.{windows}
use Rattle.claims.specs.Rows.{Row, of_all}
use Rattle.claims.specs.VisitsExamples.{lent}
use Rattle.claims.specs.WindowExamples.{Answered, answered, of_version, node, call, within, minus_one, unreached}

-- an answer, and the bytes of the entries that it counts
pub record Told : Type 0 where
  pub answer : Answered
  pub bytes : List ℕ

abbrev pub told : List ℕ → ℕ → ℕ → Told
told record₂ period size =
    let o = windows record₂ period (lent size) in
    record { answer = answered o; bytes = take (o.answer.count * 20) o.buffer }

abbrev pub entry : ℕ → ℕ → ℕ → Entry
entry start sweeps rest = record { start = start; sweeps = sweeps; rest = rest }

-- a condition that starts there
abbrev pub starting : ℕ → ℕ → List ℕ → List ℕ
starting kind start rest = kind ∷ (digits 4 start ++ (0 ∷ 0 ∷ 0 ∷ 0 ∷ rest))

-- an operand: a count whose body this is
abbrev pub counting : List ℕ → List ℕ
counting body = 11 ∷ node 2 (0 ∷ body)

-- one line: period, size of the buffer, condition, number, and the entries that are written
abbrev pub lists : ℕ → ℕ → List ℕ → ℕ → List Entry → Row
lists period size bytes number entries =
    of_all (Unit {0}) (λ x. told (of_version 2 bytes) period size)
    (record { answer = record { number = number; which = 0; count = length entries }; bytes = gather encoded entries })

-- one line that is refused, by the number and the record
abbrev pub refuses : ℕ → ℕ → List ℕ → ℕ → ℕ → Row
refuses period size bytes number which =
    of_all (Unit {0}) (λ x. told (of_version 2 bytes) period size)
    (record { answer = record { number = number; which = which; count = 0 }; bytes = [] })

abbrev pub swept : List Row
swept =
    -- where the window stands
    lists 3600 20 (starting 4 5 (within 90 1 call)) 0 (entry 5 1 1800 ∷ [])
    ∷ lists 1 20 (starting 6 7 (within 2 0 (call ++ call))) 0 (entry 7 2 0 ∷ [])
    -- its seconds, exactly; zero is a window
    ∷ lists 1 20 (node 4 (within 9223372036854775807 0 call)) 0 (entry 0 9223372036854775807 0 ∷ [])
    ∷ lists 1 20 (node 4 (within 153722867280912930 1 call)) 0 (entry 0 9223372036854775800 0 ∷ [])
    ∷ lists 1 20 (node 4 (within 2562047788015215 2 call)) 0 (entry 0 9223372036854774000 0 ∷ [])
    ∷ lists 1 20 (node 4 (within 106751991167300 3 call)) 0 (entry 0 9223372036854720000 0 ∷ [])
    ∷ refuses 1 20 (node 4 (within 106751991167301 3 call)) 13 2
    ∷ lists 9 20 (node 4 (within 0 3 call)) 0 (entry 0 0 0 ∷ [])
    -- not where the walk does not go
    ∷ lists 1 20 (unreached (node 5 (within 9 0 call))) 0 []
    -- a Since before its left, and this before its right; of a comparison the left operand first; no parameter
    ∷ lists 10 60 (starting 6 1 (within 11 0 (starting 4 2 (within 22 0 call) ++ starting 5 3 (within 33 0 call)))) 0 (entry 1 1 1 ∷ entry 2 2 2 ∷ entry 3 3 3 ∷ [])
    ∷ lists 10 60 (node 8 (4 ∷ (counting (starting 4 4 (within 4 0 call)) ++ counting (starting 4 5 (within 5 0 call))))) 0 (entry 4 0 4 ∷ entry 5 0 5 ∷ [])
    ∷ lists 10 60 (node 4 (1 ∷ starting 5 6 (within 6 0 call))) 0 (entry 6 0 6 ∷ [])
    -- version 1 has none
    ∷ of_all (Unit {0}) (λ x. (told (of_version 1 (node 4 call)) 1 60).answer.count) 0
    -- a period of 0: after the record and before 11; a period has no sign
    ∷ refuses 0 60 call 14 0
    ∷ refuses 0 0 (node 4 (within 5 0 call)) 14 0
    ∷ refuses 0 60 (node 4 (within minus_one 0 call)) 13 2
    ∷ refuses 0 60 (node 11 (0 ∷ [])) 10 2
    ∷ lists 18446744073709551615 20 (node 4 (within 9223372036854775807 0 call)) 0 (entry 0 0 9223372036854775807 ∷ [])
    -- whole entries, until the first that does not fit
    ∷ lists 1 39 (node 4 (within 1 0 (node 5 (within 2 0 call)))) 11 (entry 0 1 0 ∷ [])
    ∷ lists 1 40 (node 4 (within 1 0 (node 5 (within 2 0 call)))) 0 (entry 0 1 0 ∷ entry 0 2 0 ∷ [])
    ∷ []
