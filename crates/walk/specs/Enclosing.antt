-- The binders around each reached condition in a table: for each of them a row of two entries, what holds the innermost binders around it and the row of the
-- reached condition that this stands in; behind the rows, the binders of long lists, sorted by name. And a name looked up in either way.
use Rattle.std.specs.Prelude.{◌≡◌, Bool, true, false, cond, List, [], ◌∷◌, ◌++◌, map, ℕ, ◌+◌, ◌*◌, ◌-◌, ◌≤◌, ◌<◌, eqb, length, get_or, take, drop}
use Rattle.walk.specs.declared.Binding as declared
use Rattle.walk.specs.declared.Binding.TheVariants as code
use Rattle.condition.specs.Condition.{Binder}
use Rattle.condition.specs.Walk.{binders, declares, declared_by}
use Rattle.condition.specs.Places.{record_in, is_condition, condition_in, is_aggregate, aggregate_in}
use Rattle.nodes.specs.declared.Bound.{Bound}
use Rattle.nodes.specs.declared.Bound.TheVariants.{Segments, Timepoint, Nothing}
use Rattle.nodes.specs.Kinds.{kind_of, aggregate_kind_of}
use Rattle.walk.specs.Scopes.{Scoped, scoped, Binding, flat, own}
use Rattle.walk.specs.Index.{nodes_of}
use Rattle.walk.specs.Environment.{Environment}

-- what stands at a place holds binders: an Exists, or an aggregate that is no call; and the binders that it holds
pub data IsHolder (s : List ℕ) (at : ℕ) : Type 0 where
  quantifies : is_condition s at ≡ true → kind_of (condition_in s at) ≡ 9 → IsHolder s at
  aggregates : is_aggregate s at ≡ true → (aggregate_kind_of (aggregate_in s at) ≡ 3 → ⊥) → IsHolder s at

unfoldable pub held_in : List ℕ → ℕ → List Binder
held_in s at = cond (eqb (get_or s at 0) 9) (declares (condition_in s at)) (declared_by (aggregate_in s at))

-- a holder at a place p, and the row of the reached condition that it stands in, which is before the n-th
pub record Holding (s : List ℕ) (n holder node p : ℕ) : Type 0 where
  pub place : holder ≡ p
  pub some : 0 < p
  pub holds : IsHolder s p
  pub before : node < n

-- from a holder and its row on: the places of the holders around, the innermost first; 0 is none
unfoldable pub Chain : List ℕ → List ℕ → ℕ → ℕ → ℕ → List ℕ → Type 0
Chain s table n holder node [] = holder ≡ 0
Chain s table n holder node (p ∷ outer) = Holding s n holder node p × Chain s table node (get_or table (2 * node) 0) (get_or table (2 * node + 1) 0) outer

-- their binders, those of the innermost last
unfoldable pub joined : List ℕ → List ℕ → List Binder
joined s [] = []
joined s (p ∷ outer) = joined s outer ++ held_in s p

-- a holder and its row, which is before the n-th, stand for these binders
pub record Encloses (s table : List ℕ) (n holder node : ℕ) (bs : List Binder) : Type 0 where
  pub holders : List ℕ
  pub chain : Chain s table n holder node holders
  pub value : joined s holders ≡ bs

-- the i-th row stands for these binders
abbrev pub RowEncloses : List ℕ → List ℕ → ℕ → List Binder → Type 0
RowEncloses s table i bs = Encloses s table i (get_or table (2 * i) 0) (get_or table (2 * i + 1) 0) bs

-- the binders that the names of the i-th reached condition are looked up among
unfoldable pub around_at : Binding → List ℕ → ℕ → List Binder
around_at flat s i = binders (record_in s)
around_at own s i = get_or (map (λ (x : Scoped). x.around) (scoped [] (record_in s))) i []

-- the table has a row for each reached condition, which stands for the binders around it
pub record Enclosing (s table : List ℕ) : Type 0 where
  pub size : length table ≡ 2 * length (nodes_of s)
  pub rows : (i : ℕ) → i < length (nodes_of s) → RowEncloses s table i (around_at own s i)

-- three entries say where a list stands, which ends before `free`: the place of what holds its binders, where it starts, and how many entries it has
pub record IsList (s table : List ℕ) (free entry : ℕ) : Type 0 where
  pub within : get_or table (entry + 1) 0 + get_or table (entry + 2) 0 ≤ free
  pub list : Environment s (held_in s (get_or table entry 0)) (take (get_or table (entry + 2) 0) (drop (get_or table (entry + 1) 0) table))

-- the directory of the lists grows from the end of a table to its front, before its last entry: where the three entries of the k-th list are
abbrev pub entry_at : ℕ → ℕ → ℕ
entry_at size k = size - (3 * k + 4)

-- the table has so many lists, all of them before `free`, and the directory stands behind that
pub record HasLists (s table : List ℕ) (free count : ℕ) : Type 0 where
  pub room : free + 3 * count < length table
  pub each : (k : ℕ) → k < count → IsList s table free (entry_at (length table) k)

-- how many lists a table has, by its last entry
abbrev pub list_count : List ℕ → ℕ
list_count table = get_or table (length table - 1) 0

-- the rows in front, and the lists behind them
pub record Bodies (s table : List ℕ) : Type 0 where
  pub rows : ℕ
  pub enclosing : Enclosing s (take rows table)
  pub free : ℕ
  pub lists : HasLists s table free (list_count table)

-- whether an answer is that a name is bound
unfoldable pub is_bound : Bound → Bool
is_bound (Segments p) = true
is_bound Timepoint = true
is_bound Nothing = false

-- of two answers, the later if it binds the name
unfoldable pub later_of : Bound → Bound → Bound
later_of before here = cond (is_bound here) here before

-- how a name is bound, by the code's choice
unfoldable pub binding_in : declared.Binding → Binding
binding_in code.Flat = flat
binding_in code.Own = own

-- the table is the one that names are looked up in
unfoldable pub Names : List ℕ → Binding → List ℕ → Type 0
Names s flat table = Environment s (binders (record_in s)) table
Names s own table = Bodies s table
