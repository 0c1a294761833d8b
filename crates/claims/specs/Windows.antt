-- What the windows of a condition change in the answers of Check and Sums: nothing. Two accepted records that differ in their windows alone answer
-- alike, whichever their versions; so a record of version 1, which says no window, and the same condition in version 2 with a macro's parameter for
-- each. `proofs/Windows.antt` proves it.
use Rattle.std.specs.Prelude.{ℕ, ◌≡◌, true, List, []}
use Rattle.condition.specs.Condition.{Window, unsaid, parameter, Condition}
use Rattle.condition.specs.Places.{is_record, record_in, version_in}
use Rattle.sweeps.specs.Windows.{entries}
use Rattle.claims.specs.Changes.{Change, changed, Alike}

-- each window becomes this one, and all else stays
abbrev pub windows_to : Window → Change
windows_to w = record { windows = λ own. w; entities = λ n. n; literals = λ l. l; ops = λ op. op }

abbrev pub with_window : Window → Condition → Condition
with_window w = changed (windows_to w)

-- a record of version 1 says no window
abbrev pub NoneInFirst : Type 0
NoneInFirst = (s : List ℕ) → is_record s ≡ true → version_in s ≡ 1 → with_window unsaid (record_in s) ≡ record_in s

-- so it has no entry in a listing
abbrev pub NoneListed : Type 0
NoneListed = (period : ℕ) (s : List ℕ) → is_record s ≡ true → version_in s ≡ 1 → entries period (record_in s) ≡ []

-- records that differ in their windows alone: with one window everywhere they are one condition
abbrev pub AnyWindows : Type 0
AnyWindows = (w : Window) (a b : List ℕ) → is_record a ≡ true → is_record b ≡ true → with_window w (record_in a) ≡ with_window w (record_in b) → Alike a b

-- a record of version 1, and the record of version 2 whose windows are parameters
abbrev pub FirstAndSecond : Type 0
FirstAndSecond = (a b : List ℕ) → is_record a ≡ true → is_record b ≡ true → version_in a ≡ 1 → version_in b ≡ 2 → record_in b ≡ with_window parameter (record_in a) → Alike a b
