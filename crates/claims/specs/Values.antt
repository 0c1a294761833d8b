-- What the values of a condition change in the answers of Check, Sums and the listing: nothing. Two accepted records that are the same without their values,
-- ids and operators answer alike, and so do the same condition in versions 1, 2 and 3. `proofs/Values.antt` proves it.
use Rattle.std.specs.Prelude.{ℕ, ◌≤◌, ◌≡◌, true, List}
use Rattle.std.proofs.Math.Option.{none}
use Rattle.condition.specs.Condition.{Window, unsaid, seconds, parameter, Literal, integer, decimal, string, bool, Condition}
use Rattle.condition.specs.Places.{is_record, record_in, version_in}
use Rattle.claims.specs.Changes.{Change, changed, Alike, ListedAlike}

abbrev pub without_value : Literal → Literal
without_value (integer n) = integer none
without_value (decimal n) = decimal none
without_value (string w) = string none
without_value (bool b) = bool none

-- what becomes of the windows, and no value, id or operator is left
abbrev pub dropping_values : (Window → Window) → Change
dropping_values windows = record { windows = windows; entities = λ n. record { name = n.name; id = none }; literals = without_value; ops = λ op. none }

abbrev pub without_values : Condition → Condition
without_values = changed (dropping_values (λ w. w))

-- and no window either
abbrev pub bare : Condition → Condition
bare = changed (dropping_values (λ w. unsaid))

-- no window but those that say seconds: the others list nothing, and version 1 has none
abbrev pub only_seconds : Window → Window
only_seconds unsaid = unsaid
only_seconds (seconds n) = seconds n
only_seconds parameter = unsaid

-- two condition records give the same outcome of Check, Sums and the listing
pub record AllAlike (a b : List ℕ) : Type 0 where
  pub answers : Alike a b
  pub listings : ListedAlike a b

-- records that differ in their values alone
abbrev pub AnyValues : Type 0
AnyValues = (a b : List ℕ) → is_record a ≡ true → is_record b ≡ true → without_values (record_in a) ≡ without_values (record_in b) → AllAlike a b

-- a record, and the one of which the values are erased
abbrev pub Erased : Type 0
Erased = (a b : List ℕ) → is_record a ≡ true → is_record b ≡ true → record_in b ≡ without_values (record_in a) → AllAlike a b

-- and the one that says no parameter either, as in version 1, which says no window: then the first has parameters alone
abbrev pub ErasedToFirst : Type 0
ErasedToFirst = (a b : List ℕ) → is_record a ≡ true → is_record b ≡ true → record_in b ≡ changed (dropping_values only_seconds) (record_in a) → AllAlike a b

-- the same condition in whatever versions, with whatever values and windows; the listing depends on the windows
abbrev pub AnyVersions : Type 0
AnyVersions = (a b : List ℕ) → is_record a ≡ true → is_record b ≡ true → bare (record_in a) ≡ bare (record_in b) → Alike a b

-- the versions below 3 say no value
abbrev pub NoneBelowThird : Type 0
NoneBelowThird = (s : List ℕ) → is_record s ≡ true → version_in s ≤ 2 → without_values (record_in s) ≡ record_in s
