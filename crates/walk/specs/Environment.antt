-- The binders of a record in a table: for each name the place of its last binder, sorted by name, so that a name is found by halving.
use Rattle.std.specs.Prelude.{◌≡◌, true, false, List, ◌∷◌, ◌++◌, ℕ, ◌+◌, ◌≤◌, ◌<◌, length, get_or, take, drop, Result, Ok, Err}
use Rattle.std.proofs.Math.Option.{none, some}
use Rattle.names.specs.Names.{same, below}
use Rattle.nodes.specs.declared.Bound.{Bound}
use Rattle.nodes.specs.Parts.{name_in, BoundBy}
use Rattle.condition.specs.Condition.{Binder, named}
use Rattle.condition.specs.Walk.{named_ones, last_named}
use Rattle.condition.specs.Places.{is_binder, binder_in}

-- the name of the i-th entry: an entry is the place of a named binder
unfoldable pub name_at : List ℕ → List ℕ → ℕ → List ℕ
name_at s table i = name_in s (get_or table i 0)

-- the names ascend, so that each stands once
pub record Sorted (s table : List ℕ) : Type 0 where
  pub ascend : (i j : ℕ) → i < j → j < length table → below (name_at s table i) (name_at s table j) ≡ true

-- an entry under the binders bs: a named binder, the last of its name among them
pub record Entry (s : List ℕ) (bs : List Binder) (p : ℕ) : Type 0 where
  pub stands : is_binder s p ≡ true
  pub slot : (binder_in s p).slot ≡ named (name_in s p)
  pub last : last_named (name_in s p) bs ≡ some (binder_in s p).annotation

-- the table is the environment of the binders bs: a name that it does not have is declared by none of them
pub record Environment (s : List ℕ) (bs : List Binder) (table : List ℕ) : Type 0 where
  pub entries : (i : ℕ) → i < length table → Entry s bs (get_or table i 0)
  pub sorted : Sorted s table
  pub complete : (name : List ℕ) → ((i : ℕ) → i < length table → same (name_at s table i) name ≡ false) → last_named name bs ≡ none

-- the table is the environment of some binders; and what it says of a name, of whatever binders it is the environment
pub record SomeEnvironment (s table : List ℕ) : Type 0 where
  pub declared : List Binder
  pub is : Environment s declared table

pub record SaysOf (s table name : List ℕ) (r : Bound) : Type 0 where
  pub of : (bs : List Binder) → Environment s bs table → BoundBy s (last_named name bs) r

-- where a name stands in a sorted table: those before it are below it
pub record Stands (s table name : List ℕ) (at : ℕ) : Type 0 where
  pub within : at < length table
  pub here : name_at s table at ≡ name
  pub before : (i : ℕ) → i < at → below (name_at s table i) name ≡ true

-- where a name that does not stand there belongs: those before it are below it, the others above it
pub record Belongs (s table name : List ℕ) (at : ℕ) : Type 0 where
  pub within : at ≤ length table
  pub before : (i : ℕ) → i < at → below (name_at s table i) name ≡ true
  pub missing : (i : ℕ) → at ≤ i → i < length table → below name (name_at s table i) ≡ true

-- one or the other
unfoldable pub SpotOf : List ℕ → List ℕ → List ℕ → Result ℕ ℕ → Type 0
SpotOf s table name (Ok at) = Stands s table name at
SpotOf s table name (Err at) = Belongs s table name at

-- an entry put in: those from its place on come behind it
unfoldable pub insert_at : ℕ → ℕ → List ℕ → List ℕ
insert_at at p entries = take at entries ++ (p ∷ drop at entries)

-- the first n entries of the table before, with one more put in
pub record Inserted (old : List ℕ) (n at p : ℕ) (table : List ℕ) : Type 0 where
  pub entries : take (n + 1) table ≡ insert_at at p (take n old)
  pub size : length table ≡ length old

-- the first n entries are sorted, a place fits an entry, and there is room for so many binders more
pub record MayDeclare (s : List ℕ) (new : List Binder) (table : List ℕ) (n : ℕ) : Type 0 where
  pub small : length s ≤ 65536
  pub sorted : Sorted s (take n table)
  pub room : n + length (named_ones new) ≤ length table

-- the table with these binders declared besides: what was the environment of some binders is that of those and these
pub record Declared (s : List ℕ) (new : List Binder) (old : List ℕ) (n : ℕ) (table : List ℕ) (m : ℕ) : Type 0 where
  pub sorted : Sorted s (take m table)
  pub count : m ≤ n + length (named_ones new)
  pub size : length table ≡ length old
  pub on : (bs : List Binder) → Environment s bs (take n old) → Environment s (bs ++ new) (take m table)
