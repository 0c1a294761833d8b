-- The examples of the strict check, from the bytes of the records to the reports, under one statement, `Hold lines`: `told version rules schema condition` is
-- what a check of a condition in a version with these rules reports under the target `view`. Rules 0 is the plain check and 1 the strict one.
use Rattle.std.specs.Prelude.{ℕ, List, [], ◌∷◌, ◌++◌, length}
use Rattle.names.specs.Text.{text}
use Rattle.reports.specs.Reports.{Breach}
use Rattle.reports.specs.Decode.{reports}
use Rattle.typecheck.specs.Check.{check_with}
use Rattle.claims.specs.Rows.{Row, of_all}
use Rattle.claims.specs.WholeRun.{schema_bytes, target_bytes}

-- an answer's number and record, and the reports
pub record Told : Type 0 where
  pub number : ℕ
  pub record_number : ℕ
  pub says : List Breach

-- the lent buffer, with space for the longest of the reports
abbrev pub lent : List ℕ
lent = text "............................................................................................................"

abbrev pub told : ℕ → ℕ → List ℕ → List ℕ → Told
told version rules schema condition =
    let o = (check_with rules schema (0x44 ∷ 0x57 ∷ 0x43 ∷ 0 ∷ version ∷ condition) target_bytes lent).outcome in
    record { number = o.answer.number; record_number = o.answer.record_number; says = reports o.answer.count o.buffer }

abbrev pub clean : Told
clean = record { number = 0; record_number = 0; says = [] }

-- one report, whose span is start and end
abbrev pub one : ℕ → ℕ → List ℕ → Told
one start end message = record { number = 0; record_number = 0; says = record { start = start; end = end; message = message } ∷ [] }

-- a comparison at a span that ends there, by the number of its operator: 4 is `==`, 5 `!=`, 1 `<`
abbrev pub between : ℕ → ℕ → ℕ → List ℕ → List ℕ → List ℕ
between start end operator left right = (8 ∷ 0 ∷ 0 ∷ 0 ∷ start ∷ 0 ∷ 0 ∷ 0 ∷ end ∷ operator ∷ left) ++ right

abbrev pub compares : ℕ → List ℕ → List ℕ → List ℕ
compares = between 0 0

-- an entity, an array of one and of two terms, the empty array, a string, `principal`
abbrev pub entity : List ℕ → List ℕ
entity name = 1 ∷ length name ∷ name

abbrev pub only : List ℕ → List ℕ
only t = 10 ∷ 1 ∷ t

abbrev pub pair : List ℕ → List ℕ → List ℕ
pair t u = (10 ∷ 2 ∷ t) ++ u

abbrev pub empty : List ℕ
empty = 10 ∷ 0 ∷ []

abbrev pub string : List ℕ
string = 4 ∷ []

abbrev pub principal : List ℕ
principal = 7 ∷ 1 ∷ 9 ∷ text "principal"

-- a schema with the action `view` of the principals G and U
abbrev pub two_principals : List ℕ
two_principals = (0x44 ∷ 0x57 ∷ 0x53 ∷ 0 ∷ 1 ∷ 0 ∷ 0 ∷ 0 ∷ 1 ∷ 6 ∷ text "Action") ++ (4 ∷ text "view") ++ (2 ∷ 1 ∷ 71 ∷ 1 ∷ 85 ∷ 0 ∷ 6 ∷ 0 ∷ [])

-- `U == string` and then `U == "s"`, which start alike and end differently
abbrev pub ends_later : List ℕ
ends_later = (1 ∷ 0 ∷ 0 ∷ 0 ∷ 0 ∷ 0 ∷ 0 ∷ 0 ∷ 0 ∷ between 3 4 4 (entity (text "U")) (entity (text "string"))) ++ between 3 9 4 (entity (text "U")) string

abbrev pub lines : List Row
lines =
    -- known and different tags, in both equalities; the plain check passes them
    of_all (Unit {0}) (λ x. told 1 0 schema_bytes (compares 4 (entity (text "U")) (entity (text "G")))) clean
    ∷ of_all (Unit {0}) (λ x. told 1 1 schema_bytes (compares 4 (entity (text "U")) (entity (text "G")))) (one 0 0 (text "equality requires both sides to have the same type, got `U` and `G`"))
    ∷ of_all (Unit {0}) (λ x. told 1 1 schema_bytes (compares 5 (entity (text "U")) (entity (text "G")))) (one 0 0 (text "equality requires both sides to have the same type, got `U` and `G`"))
    -- a tag is the simple name
    ∷ of_all (Unit {0}) (λ x. told 1 1 schema_bytes (compares 4 (entity (text "A::U")) (entity (text "B::U")))) clean
    -- of two principals the type is untagged, and compatible with every entity
    ∷ of_all (Unit {0}) (λ x. told 1 1 two_principals (compares 4 principal (entity (text "D")))) clean
    -- inside arrays also
    ∷ of_all (Unit {0}) (λ x. told 1 1 schema_bytes (compares 4 (only (entity (text "U"))) (only (entity (text "G"))))) (one 0 0 (text "equality requires both sides to have the same type, got `array<U>` and `array<G>`"))
    ∷ of_all (Unit {0}) (λ x. told 1 0 schema_bytes (compares 4 (only (entity (text "U"))) (only (entity (text "G"))))) clean
    -- and differs in nothing else: the empty array, mixed arrays, and order
    ∷ of_all (Unit {0}) (λ x. told 1 1 schema_bytes (compares 4 (only (entity (text "U"))) empty)) clean
    ∷ of_all (Unit {0}) (λ x. told 1 1 schema_bytes (compares 4 (pair (entity (text "U")) (entity (text "G"))) (pair (entity (text "G")) (entity (text "U"))))) clean
    ∷ of_all (Unit {0}) (λ x. told 1 1 schema_bytes (compares 4 (pair (entity (text "U")) (entity (text "G"))) (only (entity (text "U"))))) (one 0 0 (text "equality requires both sides to have the same type, got `mixed-type array` and `array<U>`"))
    ∷ of_all (Unit {0}) (λ x. told 1 1 schema_bytes (compares 1 (entity (text "U")) (entity (text "G")))) (one 0 0 (text "comparison requires numeric operands on both sides, got `U` and `G`"))
    -- an entity `string` is shown like a string, so that a strict breach comes first under the same message and start, and its end stays
    ∷ of_all (Unit {0}) (λ x. told 1 0 schema_bytes ends_later) (one 3 9 (text "equality requires both sides to have the same type, got `U` and `string`"))
    ∷ of_all (Unit {0}) (λ x. told 1 1 schema_bytes ends_later) (one 3 4 (text "equality requires both sides to have the same type, got `U` and `string`"))
    -- the other bits of the rules have no effect
    ∷ of_all (Unit {0}) (λ x. told 1 252 schema_bytes (compares 4 (entity (text "U")) (entity (text "G")))) clean
    ∷ of_all (Unit {0}) (λ x. told 1 253 schema_bytes (compares 4 (entity (text "U")) (entity (text "G")))) (one 0 0 (text "equality requires both sides to have the same type, got `U` and `G`"))
    ∷ []
