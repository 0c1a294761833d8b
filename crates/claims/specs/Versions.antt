-- Readers of the condition record that know more versions or fewer: what a reader knows it reads as every other that knows it does, and what it does not
-- know, though another accepts it, it refuses by 4. So a reader of version 1 alone gives version 2 number 4. `proofs/Versions.antt` proves it.
use Rattle.std.specs.Prelude.{ℕ, ◌≤◌, ◌<◌, ◌≡◌, true, List}
use Rattle.names.specs.Fields.{bad, whole}
use Rattle.names.specs.Read.{accepted}
use Rattle.condition.specs.Condition.{condition_record_up_to}
use Rattle.condition.specs.Places.{version_in}
use Rattle.names.specs.declared.refusal.Refusal.TheVariants.{OtherVersion}

-- two readers that know the version of some bytes
abbrev pub Known : Type 0
Known = (newest other : ℕ) (s : List ℕ) → version_in s ≤ newest → version_in s ≤ other → whole (condition_record_up_to newest) s ≡ whole (condition_record_up_to other) s

-- a reader that does not know the version of a record which another accepts
abbrev pub Unknown : Type 0
Unknown = (newest other : ℕ) (s : List ℕ) → accepted (whole (condition_record_up_to other) s) ≡ true → newest < version_in s → whole (condition_record_up_to newest) s ≡ bad OtherVersion
