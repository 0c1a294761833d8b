-- Document 01's whole run: its three records, a buffer, and the one report, of the one visit.
use Rattle.std.specs.Prelude.{ℕ, ◌≡◌, List, [], ◌∷◌}
use Rattle.names.specs.Text.{text}
use Rattle.typecheck.specs.Check.{CheckOutcome, check}

abbrev pub schema_bytes : List ℕ
schema_bytes = 0x44 ∷ 0x57 ∷ 0x53 ∷ 0 ∷ 1 ∷ 0 ∷ 0 ∷ 0 ∷ 0 ∷ []

abbrev pub condition_bytes : List ℕ
condition_bytes = 0x44 ∷ 0x57 ∷ 0x43 ∷ 0 ∷ 1 ∷ 8 ∷ 0 ∷ 0 ∷ 0 ∷ 0 ∷ 0 ∷ 0 ∷ 0 ∷ 8 ∷ 1 ∷ 5 ∷ 2 ∷ []

abbrev pub target_bytes : List ℕ
target_bytes = 0x44 ∷ 0x57 ∷ 0x54 ∷ 0 ∷ 1 ∷ 0 ∷ 0 ∷ 1 ∷ 0 ∷ 4 ∷ 0x76 ∷ 0x69 ∷ 0x65 ∷ 0x77 ∷ []

-- the lent buffer, with five bytes more than the report takes
abbrev pub buffer : List ℕ
buffer = text ".........................................................................................."

abbrev pub expected : CheckOutcome
expected =
    record {
      outcome =
          record {
            answer = record { number = 0; record_number = 0; count = 1 };
            buffer = 0 ∷ 0 ∷ 0 ∷ 0 ∷ 0 ∷ 0 ∷ 0 ∷ 8 ∷ 0 ∷ 75 ∷ text "comparison requires numeric operands on both sides, got `boolean` and `int`.....";
          };
      visits = 1;
    }

-- a byte less than the report takes
abbrev pub short : List ℕ
short = text "...................................................................................."

-- the one report, and the bytes behind it as they were; where it does not fit, number 11 and the buffer as it was
abbrev pub Runs : Type 0
Runs =
    (check schema_bytes condition_bytes target_bytes buffer ≡ expected)
    × (check schema_bytes condition_bytes target_bytes short ≡ record { outcome = record { answer = record { number = 11; record_number = 0; count = 0 }; buffer = short }; visits = 1 })
