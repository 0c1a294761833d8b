-- The examples of datetime and duration, from the bytes of the records to the answer, under one statement, `Hold lines`: of a check and of a lookup under the
-- target `view`, each by the words that are known; and of Sums, which asks for no words.
use Rattle.std.specs.Prelude.{ℕ, Bool, true, false, List, [], ◌∷◌, ◌++◌, length, take}
use Rattle.names.specs.Fields.{either, whole}
use Rattle.names.specs.Text.{text}
use Rattle.types.specs.Types.{Vocabulary, published, dated}
use Rattle.schema.specs.Schema.{schema_record}
use Rattle.condition.specs.Condition.{condition_record}
use Rattle.reports.specs.Reports.{Outcome}
use Rattle.reports.specs.Decode.{reports}
use Rattle.typecheck.specs.Check.{check_with_by}
use Rattle.sums.specs.Sums.{sums}
use Rattle.lookup.specs.Lookup.{block, lookup_by}
use Rattle.claims.specs.Rows.{Row, of_all}
use Rattle.claims.specs.WholeRun.{schema_bytes, target_bytes}
use Rattle.claims.specs.Times.{no_times, no_times_declared}
use Rattle.claims.specs.WindowExamples.{of_version}
use Rattle.claims.specs.StrictExamples.{Told, clean, one, compares, entity, only, empty, string}

-- the lent buffer, with space for the longest of the reports
abbrev pub lent : List ℕ
lent = text "..........................................................................................................................................."

abbrev pub told : Outcome → Told
told o = record { number = o.answer.number; record_number = o.answer.record_number; says = reports o.answer.count o.buffer }

-- what a check of a schema and a condition tells, and what Sums does
abbrev pub checks : Vocabulary → List ℕ → List ℕ → Told → Row
checks v schema condition answer = of_all (Unit {0}) (λ x. told (check_with_by v 0 schema (of_version 1 condition) target_bytes lent).outcome) answer

abbrev pub adds : List ℕ → Told → Row
adds condition answer = of_all (Unit {0}) (λ x. told (sums (of_version 1 condition) lent)) answer

-- a lookup: an answer's number and record, and the bytes that it counts
pub record Looked : Type 0 where
  pub number : ℕ
  pub record_number : ℕ
  pub bytes : List ℕ

-- the path `a` of the principal
abbrev pub path_bytes : List ℕ
path_bytes = 0x44 ∷ 0x57 ∷ 0x50 ∷ 0 ∷ 1 ∷ 0 ∷ 1 ∷ 1 ∷ 0x61 ∷ 0 ∷ []

abbrev pub looked : Outcome → Looked
looked o = record { number = o.answer.number; record_number = o.answer.record_number; bytes = take o.answer.count o.buffer }

-- the status of what is found, and its strings
abbrev pub finds : Vocabulary → List ℕ → ℕ → List (List ℕ) → Row
finds v schema status words = of_all (Unit {0}) (λ x. looked (lookup_by v schema target_bytes path_bytes lent)) (record { number = 0; record_number = 0; bytes = block status words })

-- ---- records

abbrev pub sized : List ℕ → List ℕ
sized w = length w ∷ w

-- the types of a schema by their first byte: an extension, an entity, an array of them
abbrev pub extension : List ℕ → List ℕ
extension name = 3 ∷ sized name

abbrev pub reference : List ℕ → List ℕ
reference name = 7 ∷ sized name

abbrev pub view : List ℕ
view = sized (text "Action") ++ sized (text "view")

-- a schema whose entity type U has the attribute `a`, and one where V has it too
abbrev pub of_user : List ℕ → List ℕ
of_user type = (0x44 ∷ 0x57 ∷ 0x53 ∷ 0 ∷ 1 ∷ 0 ∷ 1 ∷ 1 ∷ 85 ∷ 0 ∷ 1 ∷ 1 ∷ 97 ∷ type) ++ (0 ∷ 1 ∷ view) ++ (1 ∷ 1 ∷ 85 ∷ 0 ∷ 6 ∷ 0 ∷ [])

abbrev pub of_both : List ℕ → List ℕ → List ℕ
of_both type other =
    (0x44 ∷ 0x57 ∷ 0x53 ∷ 0 ∷ 1 ∷ 0 ∷ 2 ∷ 1 ∷ 85 ∷ 0 ∷ 1 ∷ 1 ∷ 97 ∷ type) ++ (1 ∷ 86 ∷ 0 ∷ 1 ∷ 1 ∷ 97 ∷ other)
    ++ (0 ∷ 1 ∷ view) ++ (2 ∷ 1 ∷ 85 ∷ 1 ∷ 86 ∷ 0 ∷ 6 ∷ 0 ∷ [])

-- a schema whose action has so many `input` fields
abbrev pub of_input : ℕ → List ℕ → List ℕ
of_input n fields = (0x44 ∷ 0x57 ∷ 0x53 ∷ 0 ∷ 1 ∷ 0 ∷ 0 ∷ 0 ∷ 1 ∷ view) ++ (0 ∷ 0 ∷ 6 ∷ 1 ∷ sized (text "input")) ++ (6 ∷ n ∷ fields)

-- the fields `d`, `e` and `s`, and an array of datetimes as `d`
abbrev pub three_fields : List ℕ
three_fields = of_input 3 ((1 ∷ 100 ∷ extension (text "datetime")) ++ (1 ∷ 101 ∷ extension (text "duration")) ++ (1 ∷ 115 ∷ 1 ∷ []))

abbrev pub array_field : List ℕ
array_field = of_input 1 (1 ∷ 100 ∷ 4 ∷ extension (text "datetime"))

-- ---- conditions

-- a field of `input`, by the byte of its name; the variables v and w, an integer, a wildcard, the sum of two terms
abbrev pub field : ℕ → List ℕ
field name = (6 ∷ 2 ∷ sized (text "input")) ++ (1 ∷ name ∷ [])

abbrev pub v : List ℕ
v = 8 ∷ 1 ∷ 118 ∷ []

abbrev pub w : List ℕ
w = 8 ∷ 1 ∷ 119 ∷ []

abbrev pub integer : List ℕ
integer = 2 ∷ []

abbrev pub wildcard : List ℕ
wildcard = 9 ∷ []

abbrev pub plus : List ℕ → List ℕ → List ℕ
plus l r = 12 ∷ (l ++ r)

-- `exists (NAME: TYPE) BODY`, by the byte of the name and the segments of the type
abbrev pub bound : ℕ → List (List ℕ) → List ℕ
bound name [] = 0 ∷ 1 ∷ name ∷ 0 ∷ []
bound name (a ∷ []) = 0 ∷ 1 ∷ name ∷ 1 ∷ sized a
bound name (a ∷ (b ∷ rest)) = 0 ∷ 1 ∷ name ∷ 2 ∷ (sized a ++ sized b)

abbrev pub exists : ℕ → List (List ℕ) → List ℕ → List ℕ
exists name type body = (9 ∷ 0 ∷ 0 ∷ 0 ∷ 0 ∷ 0 ∷ 0 ∷ 0 ∷ 0 ∷ bound name type) ++ body

-- the predicate `Action::view(n: input.d = TERM)`
abbrev pub called : List ℕ → List ℕ
called term = (7 ∷ 0 ∷ 0 ∷ 0 ∷ 0 ∷ 0 ∷ 0 ∷ 0 ∷ 0 ∷ 0 ∷ 0 ∷ 0 ∷ 0 ∷ 0 ∷ 0 ∷ 0 ∷ 0 ∷ 1 ∷ view) ++ (1 ∷ 1 ∷ 110 ∷ 2 ∷ sized (text "input")) ++ (1 ∷ 100 ∷ term)

-- `tp(t)`, and `sum v for (v: App::datetime) f()`
abbrev pub timepoint : List ℕ
timepoint = 10 ∷ 0 ∷ 0 ∷ 0 ∷ 0 ∷ 0 ∷ 0 ∷ 0 ∷ 0 ∷ 0 ∷ 1 ∷ 116 ∷ []

abbrev pub summed : List ℕ
summed =
    (11 ∷ 1 ∷ 0 ∷ 0 ∷ 0 ∷ 0 ∷ 0 ∷ 0 ∷ 0 ∷ 0 ∷ 0 ∷ 1 ∷ 118 ∷ 1 ∷ bound 118 (text "App" ∷ text "datetime" ∷ []))
    ++ (11 ∷ 0 ∷ 0 ∷ 0 ∷ 0 ∷ 0 ∷ 0 ∷ 0 ∷ 0 ∷ [])

-- the report of a comparison's two types
abbrev pub unlike : List ℕ → List ℕ → Told
unlike l r = one 0 0 (text "equality requires both sides to have the same type, got `" ++ l ++ text "` and `" ++ r ++ text "`")

abbrev pub unordered : List ℕ → List ℕ → Told
unordered l r = one 0 0 (text "comparison requires numeric operands on both sides, got `" ++ l ++ text "` and `" ++ r ++ text "`")

abbrev pub lines : List Row
lines =
    -- in schemas: an extension whose simple name is the word
    finds dated (of_user (extension (text "datetime"))) 0 (text "datetime" ∷ [])
    ∷ finds published (of_user (extension (text "datetime"))) 0 (text "string" ∷ [])
    ∷ finds dated (of_user (extension (text "App::duration"))) 0 (text "duration" ∷ [])
    ∷ finds dated (of_user (extension (text "Datetime"))) 0 (text "string" ∷ [])
    ∷ finds dated (of_user (reference (text "datetime"))) 0 (text "entity:datetime" ∷ [])
    ∷ finds dated (of_user (4 ∷ extension (text "datetime"))) 0 (text "array<datetime>" ∷ [])
    -- in annotations: the last segment
    ∷ checks dated schema_bytes (exists 118 (text "datetime" ∷ []) (compares 4 v string)) (unlike (text "datetime") (text "string"))
    ∷ checks dated schema_bytes (exists 118 (text "App" ∷ text "datetime" ∷ []) (compares 1 v v)) clean
    ∷ checks dated schema_bytes (exists 118 (text "datetime" ∷ text "Long" ∷ []) (compares 1 v integer)) clean
    ∷ checks dated schema_bytes (exists 118 (text "Datetime" ∷ []) (compares 4 v (entity (text "U")))) clean
    ∷ checks dated schema_bytes (exists 118 (text "datetime" ∷ []) (compares 4 v (entity (text "datetime")))) (unlike (text "datetime") (text "datetime"))
    ∷ checks published schema_bytes (exists 118 (text "datetime" ∷ []) (compares 4 v (entity (text "datetime")))) clean
    -- order: only against the same type
    ∷ checks dated three_fields (compares 1 (field 100) (field 100)) clean
    ∷ checks published three_fields (compares 1 (field 100) (field 100)) (unordered (text "string") (text "string"))
    ∷ checks dated three_fields (compares 1 (field 100) (field 101)) (unordered (text "datetime") (text "duration"))
    ∷ checks dated three_fields (compares 1 (field 100) integer) (unordered (text "datetime") (text "int"))
    ∷ checks dated schema_bytes (exists 118 (text "datetime" ∷ []) (compares 4 v integer)) (unlike (text "datetime") (text "int"))
    -- beside an untyped operand: as Long is
    ∷ checks dated schema_bytes (exists 118 (text "datetime" ∷ []) (compares 1 v wildcard)) clean
    ∷ checks dated schema_bytes (exists 118 (text "duration" ∷ []) (compares 1 w v)) clean
    ∷ checks published schema_bytes (compares 1 integer wildcard) clean
    -- equality and arguments: with themselves alone, in arrays too
    ∷ checks dated three_fields (called string) (one 0 0 (text "argument `n` of `view` expects `datetime` but got `string`"))
    ∷ checks published three_fields (called string) clean
    ∷ checks dated array_field (compares 4 (field 100) (only string)) (unlike (text "array<datetime>") (text "array<string>"))
    ∷ checks dated array_field (compares 4 (field 100) empty) clean
    -- arithmetic, sums, `tp`
    ∷ checks dated schema_bytes (exists 118 (text "duration" ∷ []) (compares 4 (plus v integer) integer)) (one 0 0 (text "arithmetic operates only on `Long` values, but this operand has type `duration`"))
    ∷ adds (compares 4 integer summed) (one 0 0 (text "cannot sum `v`: sum requires a `Long` summand, but `v` is `App::datetime`."))
    ∷ checks dated schema_bytes (exists 116 (text "datetime" ∷ []) timepoint) (one 0 0 (text "`tp(t)` binds `t` to the current timepoint, but `t` is declared `datetime`; a `tp` variable must be declared `Timepoint`"))
    -- lookup: a datetime beside a String was one type, and is ambiguous
    ∷ finds dated (of_both (extension (text "datetime")) (1 ∷ [])) 3 (text "datetime" ∷ text "string" ∷ [])
    ∷ finds published (of_both (extension (text "datetime")) (1 ∷ [])) 0 (text "string" ∷ [])
    ∷ []

-- whether a schema and a condition, read, are without the two words
abbrev pub without : List ℕ → List ℕ → Bool → Bool → Row
without schema condition in_schema in_condition =
    of_all (Unit {0}) {B = Bool × Bool} (λ x. (either (λ r. true) no_times (whole schema_record schema), either (λ r. true) no_times_declared (whole condition_record (of_version 1 condition)))) (in_schema, in_condition)

-- `AsBefore` needs each of its two conditions by itself: a schema with the word and a condition without, the other way round, and a lookup of the first
abbrev pub needed : List Row
needed =
    without three_fields (compares 1 (field 100) (field 100)) false true
    ∷ checks dated three_fields (compares 1 (field 100) (field 100)) clean
    ∷ checks published three_fields (compares 1 (field 100) (field 100)) (unordered (text "string") (text "string"))
    ∷ without schema_bytes (exists 118 (text "datetime" ∷ []) (compares 4 v (entity (text "datetime")))) true false
    ∷ checks dated schema_bytes (exists 118 (text "datetime" ∷ []) (compares 4 v (entity (text "datetime")))) (unlike (text "datetime") (text "datetime"))
    ∷ checks published schema_bytes (exists 118 (text "datetime" ∷ []) (compares 4 v (entity (text "datetime")))) clean
    ∷ without (of_user (extension (text "datetime"))) [] false true
    ∷ finds dated (of_user (extension (text "datetime"))) 0 (text "datetime" ∷ [])
    ∷ finds published (of_user (extension (text "datetime"))) 0 (text "string" ∷ [])
    ∷ []
