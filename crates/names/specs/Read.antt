-- What the code of a reader answers, and what a position of accepted bytes stands for.
use Rattle.std.specs.Prelude.{ℕ, ◌+◌, ◌≡◌, Bool, true, false, List, [], get_or, take, drop, Ok, Err, Some, None}
use Rattle.std.proofs.Math.Option.{Option, none, some}
use Rattle.std.specs.Prelude as code
use Rattle.names.specs.declared.refusal.Refusal.{Refusal}
use Rattle.names.specs.Fields.{Got, got, bad, Reader, many, each, number_of}

-- what the code of a reader answers: where the next byte stands, or what the bytes are refused for
abbrev pub Read : Type 0
Read = code.Result ℕ Refusal

-- what the code of a lookup answers: the position of what was found
abbrev pub Found : Type 0
Found = code.Option ℕ

-- the value dropped
unfoldable pub ending : {A : Type 0} → Got A → Read
ending (got a n) = Ok n
ending (bad r) = Err r

-- the number that the code's answer stands for, 0 for none
abbrev pub read_number : Read → ℕ
read_number (Ok n) = 0
read_number (Err r) = number_of r

-- the number of the refusal, 0 for none
unfoldable pub refusal_number : {A : Type 0} → Got A → ℕ
refusal_number (got a n) = 0
refusal_number (bad r) = number_of r

-- the value, or another where it is refused
unfoldable pub value_or : {A : Type 0} → A → Got A → A
value_or other (got a n) = a
value_or other (bad r) = other

unfoldable pub accepted : {A : Type 0} → Got A → Bool
accepted (got a n) = true
accepted (bad r) = false

-- the string whose length byte stands at a position
abbrev pub word_at : List ℕ → ℕ → List ℕ
word_at s at = take (get_or s at 0) (drop (at + 1) s)

-- the name before
abbrev pub earlier : List ℕ → Found → Option (List ℕ)
earlier s None = none
earlier s (Some p) = some (word_at s p)

-- so many things from a position, each read alike
abbrev pub row : {A : Type 0} → Reader A → ℕ → Reader (List A)
row f n = many (λ a. a) (each f) n none

-- they stand there; and what they are
abbrev pub is_row : {A : Type 0} → Reader A → List ℕ → ℕ → ℕ → Bool
is_row f s n at = accepted (row f n s at)

abbrev pub row_in : {A : Type 0} → Reader A → List ℕ → ℕ → ℕ → List A
row_in f s n at = value_or [] (row f n s at)

-- a list stands in the bytes: so many things from a position
pub record Listed {A : Type 0} (f : Reader A) (s : List ℕ) (list : List A) (n at : ℕ) : Type 0 where
  pub stands : is_row f s n at ≡ true
  pub value : row_in f s n at ≡ list
