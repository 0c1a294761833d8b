-- What is said of three records in their order, by their reading: `by_order`; what the check says
-- by it: `check_reading`; and what the reading of accepted ones is: `accepted_reading`. Assumes
-- nothing.
use Rattle.std.specs.Prelude.{◌≡◌, refl, List, ℕ}
use Rattle.names.specs.Fields.{Got, got, bad, either, whole}
use Rattle.names.specs.Read.{value_or}
use Rattle.names.specs.Laws.Readers.{accept}
use Rattle.schema.specs.Schema.{Schema, schema_record}
use Rattle.schema.specs.Places.{schema_in}
use Rattle.condition.specs.Condition.{Condition, condition_record}
use Rattle.condition.specs.Places.{record_in}
use Rattle.targets.specs.Targets.{Targets, target_record}
use Rattle.targets.specs.Places.{targets_in}
use Rattle.typecheck.specs.Check.{choices_of, unvisited, checked, check_with_by, check_with}
use Rattle.typecheck.specs.Run.{Accepted, refused, read, reading, by_reading}

-- what is said of the three records in their order is said of their reading
pub by_order : {A : Type 0} (f : ℕ → ℕ → A) (g : Schema → Condition → Targets → A)
    (s : Got Schema) (c : Got Condition) (n : Got Targets)
    → either (λ r. f r 1) (λ s. either (λ r. f r 2) (λ c. either (λ r. f r 3) (λ ts. g s c ts) n) c) s
    ≡ by_reading f g (either (λ r. refused r 1) (λ s. either (λ r. refused r 2) (λ c. either (λ r. refused r 3) (λ ts. read s c ts) n) c) s)
by_order f g (bad r) c n = refl
by_order f g (got s _) (bad r) n = refl
by_order f g (got s _) (got c _) (bad r) = refl
by_order f g (got s _) (got c _) (got ts _) = refl

-- the check is refused by the number and the record of the first refusal, or it is that of what the records hold
pub check_reading : (rules : ℕ) (s c n b : List ℕ) → check_with rules s c n b ≡ by_reading (λ k w. unvisited k w b) (λ s c ts. checked (choices_of rules) s c ts b) (reading s c n)
unfolding check_with_by reading
check_reading rules s c n b = by_order (λ k w. unvisited k w b) (λ s c ts. checked (choices_of rules) s c ts b) (whole schema_record s) (whole condition_record c) (whole target_record n)

-- accepted records are read
pub accepted_reading : (s c n : List ℕ) → Accepted s c n → reading s c n ≡ read (schema_in s) (record_in c) (targets_in n)
unfolding reading value_or record_in
accepted_reading s c n a = rw ((accept (whole schema_record s) a.schema).read, (accept (whole condition_record c) a.condition).read, (accept (whole target_record n) a.targets).read)
