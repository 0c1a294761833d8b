-- How lists of binders are put behind the rows of a table, and how the list of an aggregate is found.
use Rattle.std.specs.Prelude.{◌≡◌, List, ℕ, ◌+◌, ◌≤◌, ◌<◌, length, get_or, take, drop, Some, None}
use Rattle.walk.specs.declared.Directory.{Directory}
use Rattle.condition.specs.Condition.{Binder}
use Rattle.walk.specs.Environment.{Environment}
use Rattle.walk.specs.Enclosing.{IsHolder, Enclosing, HasLists, entry_at, list_count}
use Rattle.names.specs.Read.{Found}

-- the entries before a and those from b on are as they were
pub record Outside (old : List ℕ) (a b : ℕ) (table : List ℕ) : Type 0 where
  pub before : (i : ℕ) → i < a → get_or table i 0 ≡ get_or old i 0
  pub behind : (i : ℕ) → b ≤ i → get_or table i 0 ≡ get_or old i 0
  pub size : length table ≡ length old

-- from `from` on and before `end` there is room for the binders whose count stands at `start`; they are put there
pub record MaySort (s : List ℕ) (start : ℕ) (table : List ℕ) (from end : ℕ) : Type 0 where
  pub small : length s ≤ 65536
  pub room : from + get_or s start 0 ≤ end
  pub within : end ≤ length table

pub record SortedFrom (s : List ℕ) (bs : List Binder) (old : List ℕ) (from end : ℕ) (table : List ℕ) (n : ℕ) : Type 0 where
  pub within : from + n ≤ end
  pub list : Environment s bs (take n (drop from table))
  pub others : Outside old from end table

-- three numbers are put from an entry on
pub record Entered (old : List ℕ) (entry place from count : ℕ) (table : List ℕ) : Type 0 where
  pub holder : get_or table entry 0 ≡ place
  pub starts : get_or table (entry + 1) 0 ≡ from
  pub counts : get_or table (entry + 2) 0 ≡ count
  pub others : Outside old entry (entry + 3) table

-- the lists so far, of a record and a table whose places fit an entry
pub record MayList (s table : List ℕ) (lists : Directory) : Type 0 where
  pub small : length s ≤ 65536
  pub short : length table ≤ 65536
  pub so : HasLists s table lists.free lists.count

-- the lists of a table with perhaps some more, behind those that there were
pub record MoreLists (s old : List ℕ) (free : ℕ) (table : List ℕ) (lists : Directory) : Type 0 where
  pub may : MayList s table lists
  pub further : free ≤ lists.free
  pub before : (i : ℕ) → i < free → get_or table i 0 ≡ get_or old i 0
  pub size : length table ≡ length old

-- the holder of a row, if it has one
pub record HolderIn (s table : List ℕ) (i : ℕ) : Type 0 where
  pub holds : 0 < get_or table i 0 → IsHolder s (get_or table i 0)

-- the rows stand in front of the table
pub record RowsOnly (s table : List ℕ) (rows : ℕ) : Type 0 where
  pub small : length s ≤ 65536
  pub short : length table ≤ 65536
  pub room : rows < length table
  pub enclosing : Enclosing s (take rows table)

-- an entry of the directory; the one of a place, where one was found
pub record IsEntry (table : List ℕ) (entry : ℕ) : Type 0 where
  pub number : ℕ
  pub counted : number < list_count table
  pub there : entry ≡ entry_at (length table) number

unfoldable pub EntryOf : List ℕ → ℕ → Found → Type 0
EntryOf table at (Some entry) = IsEntry table entry × (get_or table entry 0 ≡ at)
EntryOf table at None = Unit {0}
