-- The four records by their marks, the number that refuses some bytes, and the place where that shows.
use Rattle.std.specs.Prelude.{ℕ, zero, suc, Bool, cond, List, [], ◌∷◌, length, take, eqb}
use Rattle.names.specs.Names.{same}
use Rattle.names.specs.Fields.{whole}
use Rattle.names.specs.Read.{refusal_number}
use Rattle.schema.specs.Schema.{schema_record}
use Rattle.condition.specs.Condition.{condition_record}
use Rattle.targets.specs.Targets.{target_record}
use Rattle.targets.specs.PathRecord.{path_record}
use Rattle.offence.specs.declared.Kind.{Kind}
use Rattle.offence.specs.declared.Kind.TheVariants.{Schema, Condition, Targets, Path}

-- document 01's number of a record
abbrev pub record_of : Kind → ℕ
record_of Schema = 1
record_of Condition = 2
record_of Targets = 3
record_of Path = 4

-- its mark: `DWS`, `DWC`, `DWT`, `DWP`
abbrev pub mark_of : Kind → List ℕ
mark_of Schema = 68 ∷ 87 ∷ 83 ∷ []
mark_of Condition = 68 ∷ 87 ∷ 67 ∷ []
mark_of Targets = 68 ∷ 87 ∷ 84 ∷ []
mark_of Path = 68 ∷ 87 ∷ 80 ∷ []

-- the number with which bytes are refused as that record, 0 for none
abbrev pub number_of : Kind → List ℕ → ℕ
number_of Schema s = refusal_number (whole schema_record s)
number_of Condition s = refusal_number (whole condition_record s)
number_of Targets s = refusal_number (whole target_record s)
number_of Path s = refusal_number (whole path_record s)

-- a mark stands first
abbrev pub begins : List ℕ → List ℕ → Bool
begins mark s = same (take (length mark) s) mark

-- the record whose mark stands first; bytes with no record's mark go as a path record, for all four refuse them alike (`unmarked` of proofs/Meaning)
unfoldable pub kind_of : List ℕ → Kind
kind_of s =
    cond (begins (mark_of Schema) s) Schema
    (cond (begins (mark_of Condition) s) Condition
    (cond (begins (mark_of Targets) s) Targets Path))

-- the fewest first bytes, n or up to `left` more, that are refused otherwise than by 2 or not at all; n and `left` together where there are none
unfoldable pub place_from : (List ℕ → ℕ) → List ℕ → ℕ → ℕ → ℕ
place_from number s zero n = n
place_from number s (suc left) n = cond (eqb (number (take n s)) 2) (place_from number s left (suc n)) n

-- Where bytes show what their number says: the least n whose first n bytes do not just end before a field does (2); the length where there is no such n.
-- What that means is proved in proofs/Meaning: every shorter front is refused by 2 (`before`); for 3 to 9, 13, 15 and 16 the front of the place is refused by
-- the number of the whole, so that it ends with the field that is refused (`there`); for 10 it is the record itself (`ended`); for 2 it is all bytes (`at-the-end`). 1 is a matter of
-- the length alone, and the place says nothing of it.
unfoldable pub place : (List ℕ → ℕ) → List ℕ → ℕ
place number s = place_from number s (length s) zero
