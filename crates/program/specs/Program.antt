-- What the programs' arguments, spaces and loaded files are.
use Rattle.std.specs.Prelude.{ℕ, None, Some, Ok, ◌≡◌, ⊤, ◌+◌, ◌-◌, ◌≤◌, Bool, true, cond, List, length, take, drop, ◌==◌, nat_le}
use Rattle.names.specs.Fields.{number}
use Rattle.std.specs.Io.KnownBytes.{Consumes, Keeps}
use Rattle.std.specs.declared.option.Option.{Option}
use Rattle.std.specs.declared.result.Result.{Result}

-- a program that reads so many files is called with its own name alone, or with a name for each of them behind it
unfoldable pub contented : ℕ → ℕ → Bool
contented count files = cond (nat_le count 1) true (count - 1 == files)

-- the number of eight bytes at a place; 0 where there are not so many
unfoldable pub number_at : List ℕ → ℕ → ℕ
number_at s at = cond (nat_le (at + 8) (length s)) (number 0 (take 8 (drop at s))) 0

-- the same of four bytes
unfoldable pub short_at : List ℕ → ℕ → ℕ
short_at s at = cond (nat_le (at + 4) (length s)) (number 0 (take 4 (drop at s))) 0

-- what can be said of a file that was read into a space: its bytes lie there
abbrev pub Within : List ℕ → Option ℕ → Type 0
Within s (Some n) = n ≤ length s
Within s None = 0 ≤ length s

-- what a reader of known bytes gave: those at the front of the space, or none
abbrev pub Took : Option (List ℕ) → Option (List ℕ) → List ℕ → Option ℕ → Type 0
Took old new s (Some n) = Consumes old new (take n s)
Took old new s None = Keeps old new

-- What is answered by going on with what a load put into a space, where `Calls bytes r` says that
-- going on with those bytes may answer r. The bytes are those at the front of the space. Where the
-- load failed nothing is called, and all is well.
abbrev pub GoneOn : {E : Type 0} → (List ℕ → Result ⊤ E → Type 0) → List ℕ → Option ℕ
    → Result ⊤ E → Type 0
GoneOn Calls s (Some n) r = Calls (take n s) r
GoneOn Calls s None r = r ≡ Ok tt

-- The same of a load into a space of so many bytes. No contract says what a file has, so this says
-- neither which bytes lie in the space nor when a load fails.
pub record Loaded {E : Type 0} (Calls : List ℕ → Result ⊤ E → Type 0) (n : ℕ) (r : Result ⊤ E)
    : Type 0 where
  pub space : List ℕ
  pub size : length space ≡ n
  pub loaded : Option ℕ
  pub within : Within space loaded
  pub answers : GoneOn Calls space loaded r
