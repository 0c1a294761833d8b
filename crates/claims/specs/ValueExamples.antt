-- Examples of version 3, from the bytes of the records to the answer, under one statement, `Hold lines`: literals with their values, what refuses them,
-- and that the reports do not show them.
use Rattle.std.specs.Prelude.{ℕ, List, [], ◌∷◌, ◌++◌, length}
use Rattle.names.specs.Fields.{digits}
use Rattle.names.specs.Text.{text}
use Rattle.claims.specs.Rows.{Row, of_all}
use Rattle.typecheck.specs.Check.{check}
use Rattle.sweeps.specs.Entries.{encoded}
use Rattle.claims.specs.WholeRun.{schema_bytes, target_bytes}
use Rattle.claims.specs.StrictExamples.{told, compares, one}
use Rattle.claims.specs.WindowExamples.{Answered, answered, accepted, refused, of_version, checks, adds, call, node, spanned, within}
use Rattle.claims.specs.SweepExamples as listing

-- a string, and the literals with their values: an integer is given as 64 bits hold it
abbrev pub string : List ℕ → List ℕ
string w = length w ∷ w

abbrev pub entity : List ℕ → List ℕ → List ℕ
entity name id = 1 ∷ (string name ++ string id)

abbrev pub integer : ℕ → List ℕ
integer n = 2 ∷ digits 8 n

abbrev pub decimal : List ℕ → List ℕ
decimal w = 3 ∷ string w

abbrev pub words : List ℕ → List ℕ
words w = 4 ∷ string w

abbrev pub truth : ℕ → List ℕ
truth b = 5 ∷ b ∷ []

-- what stands behind the `==` of a comparison of version 3, and the answer of a check
abbrev pub equal : List ℕ → Answered → Row
equal operands answer = checks 3 (node 8 (4 ∷ operands)) answer

-- a decimal that is refused
abbrev pub rejects : ℕ → List ℕ → Row
rejects number w = equal (decimal w) (refused number)

-- what a check tells of a comparison in a version: the one report of unlike types
abbrev pub tells : ℕ → List ℕ → List ℕ → List ℕ → Row
tells version left right message = of_all (Unit {0}) (λ x. told version 0 schema_bytes (compares 4 left right)) (one 0 0 message)

-- what a listing in sweeps of an hour says of a Formerly of 90 minutes that starts at 5, by its version and its body
abbrev pub lists : ℕ → List ℕ → Row
lists version body =
    of_all (Unit {0}) (λ x. listing.told (of_version version (listing.starting 4 5 (within 90 1 body))) 3600 20)
    (record { answer = record { number = 0; which = 0; count = 1 }; bytes = encoded (listing.entry 5 1 1800) })

abbrev pub user_and_int : List ℕ
user_and_int = text "equality requires both sides to have the same type, got `U` and `int`"

abbrev pub string_and_decimal : List ℕ
string_and_decimal = text "equality requires both sides to have the same type, got `string` and `decimal`"

abbrev pub int_and_array : List ℕ
int_and_array = text "equality requires both sides to have the same type, got `int` and `array<int>`"

abbrev pub lines : List Row
lines =
    -- where the values stand, in version 3 alone
    equal (entity (text "U") (text "x") ++ entity (text "U") []) accepted
    ∷ equal (integer 9223372036854775808 ++ integer 9223372036854775807) accepted
    ∷ equal (truth 0 ++ truth 1) accepted
    ∷ checks 3 (node 4 (1 ∷ call)) accepted
    ∷ checks 3 (node 4 call) (refused 5)
    ∷ checks 2 (node 8 (4 ∷ 2 ∷ 2 ∷ [])) accepted
    -- their fields
    ∷ equal (1 ∷ string (text "U")) (refused 2)
    ∷ equal ((1 ∷ string (text "U")) ++ (1 ∷ 0x22 ∷ [])) (refused 6)
    ∷ equal (2 ∷ 0 ∷ 0 ∷ 0 ∷ 0 ∷ 0 ∷ 0 ∷ 0 ∷ []) (refused 2)
    ∷ equal (truth 2) (refused 5)
    ∷ equal (12 ∷ 3 ∷ []) (refused 5)
    ∷ equal (12 ∷ 2 ∷ 15 ∷ []) (refused 5)
    ∷ equal (10 ∷ 1 ∷ 12 ∷ 0 ∷ 11 ∷ []) (refused 9)
    -- the order at a decimal's text: 2, 6, 15, 16
    ∷ equal (3 ∷ 4 ∷ 0x31 ∷ 0x2E ∷ []) (refused 2)
    ∷ rejects 6 (0x31 ∷ 0x22 ∷ [])
    ∷ rejects 6 (0xB1 ∷ 0x2E ∷ [])
    ∷ rejects 15 (text "99999999999999999999.00000")
    ∷ rejects 16 (text "99999999999999999999.0")
    ∷ rejects 15 []
    -- what is well formed
    ∷ equal (decimal (text "-0.0") ++ decimal (text "000000000000000000000000000001.5")) accepted
    ∷ rejects 15 (text "+1.0")
    ∷ rejects 15 (text ".5")
    ∷ rejects 15 (text "-.5")
    ∷ rejects 15 (text "5.")
    ∷ rejects 15 (text "5")
    ∷ rejects 15 (text "1.00000")
    ∷ rejects 15 (text "1.0.0")
    ∷ rejects 15 (text " 1.0")
    ∷ rejects 15 (text "--1.0")
    -- what 64 bits hold
    ∷ equal (decimal (text "922337203685477.5807") ++ decimal (text "-922337203685477.5808")) accepted
    ∷ rejects 16 (text "922337203685477.5808")
    ∷ rejects 16 (text "-922337203685477.5809")
    ∷ rejects 16 (text "922337203685478.0")
    -- in an argument too
    ∷ checks 3 (node 7 (spanned (0 ∷ 0 ∷ 1 ∷ 0 ∷ 0 ∷ decimal (text "x")))) (refused 15)
    ∷ adds 3 (node 7 (spanned (0 ∷ 0 ∷ 1 ∷ 0 ∷ 0 ∷ decimal (text "x")))) (refused 15)
    -- the reports show no value, and are those of version 1
    ∷ tells 3 (words (text "a")) (decimal (text "1.5")) string_and_decimal
    ∷ tells 1 (4 ∷ []) (3 ∷ []) string_and_decimal
    ∷ tells 3 (12 ∷ 2 ∷ (integer 1 ++ integer 2)) (10 ∷ 1 ∷ integer 3) int_and_array
    ∷ tells 2 (12 ∷ 2 ∷ 2 ∷ []) (10 ∷ 1 ∷ 2 ∷ []) int_and_array
    ∷ tells 3 (entity (text "U") (text "x")) (integer 1) user_and_int
    -- nor do the visits or the listing depend on them
    ∷ of_all (Unit {0}) (λ x. (check schema_bytes (of_version 3 (node 8 (4 ∷ (integer 1 ++ integer 2)))) target_bytes []).visits) 1
    ∷ of_all (Unit {0}) (λ x. (check schema_bytes (of_version 2 (node 8 (4 ∷ 2 ∷ 2 ∷ []))) target_bytes []).visits) 1
    ∷ lists 3 (node 8 (4 ∷ (integer 1 ++ integer 2)))
    ∷ lists 2 (node 8 (4 ∷ 2 ∷ 2 ∷ []))
    -- the versions that are read: 1, 2 and 3, as one field of 16 bits
    ∷ checks 1 call accepted
    ∷ checks 3 call accepted
    ∷ checks 0 call (refused 4)
    ∷ checks 4 call (refused 4)
    ∷ of_all (Unit {0}) (λ x. answered (check schema_bytes (0x44 ∷ 0x57 ∷ 0x43 ∷ 1 ∷ 2 ∷ call) target_bytes []).outcome) (refused 4)
    ∷ adds 3 call accepted
    ∷ adds 4 call (refused 4)
    ∷ []
