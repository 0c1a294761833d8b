-- The index of the reached conditions: a table of the places at which they stand, in walk order.
use Rattle.std.specs.Prelude.{◌≡◌, true, List, [], ◌∷◌, ℕ, ◌+◌, length, get_or, drop}
use Rattle.condition.specs.Condition.{Condition}
use Rattle.condition.specs.Places.{record_in, is_condition, condition_in}
use Rattle.condition.specs.Walk.{reached}

-- the reached conditions of a record
abbrev pub nodes_of : List ℕ → List Condition
nodes_of s = reached (record_in s)

-- a condition stands at a place
pub record StandsAt (s : List ℕ) (at : ℕ) (x : Condition) : Type 0 where
  pub stands : is_condition s at ≡ true
  pub value : condition_in s at ≡ x

-- from the entry n on, the table has the places of these conditions, one after the other
unfoldable pub Indexes : List ℕ → List ℕ → ℕ → List Condition → Type 0
Indexes s table n [] = Unit {0}
Indexes s table n (x ∷ xs) = StandsAt s (get_or table n 0) x × Indexes s table (n + 1) xs

-- the places are those of all reached conditions of the record: what every loop over them asks
pub record Index (s places : List ℕ) : Type 0 where
  pub size : length places ≡ length (nodes_of s)
  pub entries : Indexes s places 0 (nodes_of s)

-- what a loop knows at its i-th turn: a condition stands there, and the rest goes on behind it
pub record Reached (s : List ℕ) (i at : ℕ) : Type 0 where
  pub stands : is_condition s at ≡ true
  pub rest : drop i (nodes_of s) ≡ condition_in s at ∷ drop (i + 1) (nodes_of s)
