-- What one walk puts into a table of rows, one for each reached condition: the place of the condition, or the scope that it stands in.
use Rattle.std.specs.Prelude.{◌≡◌, Bool, true, false, List, [], ◌∷◌, ℕ, ◌+◌, ◌*◌, ◌≤◌, ◌<◌, length, get_or, Ok, Option, Some, None}
use Rattle.names.specs.Fields.{Got}
use Rattle.names.specs.Read.{ending}
use Rattle.walk.specs.declared.Indexed.{Indexed}
use Rattle.walk.specs.declared.Scope.{Scope}
use Rattle.condition.specs.Condition.{Binder}
use Rattle.condition.specs.Places.{condition_in, term_in}
use Rattle.walk.specs.Scopes.{Scoped, scoped, scoped_in}
use Rattle.walk.specs.Index.{StandsAt}
use Rattle.walk.specs.Enclosing.{Encloses, RowEncloses}

-- what is put into a row: a scope, or the place of the condition where none is asked for
abbrev pub Row : Type 0
Row = Option Scope

-- whether the rows are scopes; how many entries a row has; that its numbers fit them
unfoldable pub scopes : Row → Bool
scopes None = false
scopes (Some scope) = true

unfoldable pub width : Row → ℕ
width None = 1
width (Some scope) = 2

unfoldable pub Fits : Row → Type 0
Fits None = Unit {0}
Fits (Some scope) = (scope.holder < 65536) × (scope.node < 65536)

-- the i-th row of a table, and what is put there of the condition at `at`
unfoldable pub row_at : Bool → List ℕ → ℕ → ℕ × ℕ
row_at false table i = (get_or table i 0, 0)
row_at true table i = (get_or table (2 * i) 0, get_or table (2 * i + 1) 0)

unfoldable pub row_of : Row → ℕ → ℕ × ℕ
row_of None at = (at, 0)
row_of (Some scope) at = (scope.holder, scope.node)

-- what is handed down below the n-th reached condition, which stands at `at`; and to the body of an aggregate at `at`, in an operand of the comparison whose row
-- was handed down
unfoldable pub below : Row → ℕ → ℕ → Row
below None at n = None
below (Some scope) at n = Some (record { holder = at; node = n })

unfoldable pub held_by : Row → ℕ → Row
held_by None at = None
held_by (Some scope) at = Some (record { holder = at; node = scope.node })

pub record Handed (row next value : Row) : Type 0 where
  pub is : next ≡ value
  pub alike : scopes next ≡ scopes row
  pub wide : width next ≡ width row
  pub fits : Fits next

-- the binders of the scope that a condition stands in; and those around the comparison whose operand is walked, which has its row already
unfoldable pub InScope : Row → List ℕ → List ℕ → ℕ → List Binder → Type 0
InScope None s table n bs = Unit {0}
InScope (Some scope) s table n bs = Encloses s table n scope.holder scope.node bs

unfoldable pub InRow : Row → List ℕ → List ℕ → ℕ → List Binder → Type 0
InRow None s table n bs = Unit {0}
InRow (Some scope) s table n bs = (scope.node < n) × RowEncloses s table scope.node bs

-- what the n-th row says of a reached condition; from the n-th on, the rows say it of these
unfoldable pub Says : Bool → List ℕ → List ℕ → ℕ → Scoped → Type 0
Says false s table n x = StandsAt s (get_or table n 0) x.node
Says true s table n x = RowEncloses s table n x.around

unfoldable pub Rows : Bool → List ℕ → List ℕ → ℕ → List Scoped → Type 0
Rows b s table n [] = Unit {0}
Rows b s table n (x ∷ xs) = Says b s table n x × Rows b s table (n + 1) xs

-- the conditions reached from a condition, from an operand, under whatever binders
unfoldable pub reached_from : List ℕ → ℕ → List Binder → List Scoped
reached_from s at bs = scoped bs (condition_in s at)

unfoldable pub reached_within : List ℕ → ℕ → List Binder → List Scoped
reached_within s at bs = scoped_in bs (term_in s at)

-- the n conditions so far took nine bytes each before `at`, and 3,641 rows are room for those of any record
pub record Room (row : Row) (s : List ℕ) (at size n : ℕ) : Type 0 where
  pub small : length s ≤ 32768
  pub before : 9 * n < at
  pub enough : 3641 * width row ≤ size
  pub fits : Fits row

pub record MayPut (row : Row) (size n at : ℕ) : Type 0 where
  pub index : n < 3641
  pub place : at < 65536
  pub enough : 3641 * width row ≤ size
  pub fits : Fits row

-- the n-th row is put, and those before it are as they were
pub record Put (row : Row) (old : List ℕ) (n at : ℕ) (table : List ℕ) : Type 0 where
  pub here : row_at (scopes row) table n ≡ row_of row at
  pub kept : (k : ℕ) → k < n → row_at (scopes row) table k ≡ row_at (scopes row) old k
  pub size : length table ≡ length old

-- these conditions are in the table from the n-th row on, under the binders of the scope, and the rows before are as they were; what was walked ends where the
-- answer says
pub record Filled {A : Type 0} (row : Row) (scope : Row → List ℕ → List ℕ → ℕ → List Binder → Type 0) (s : List ℕ) (at : ℕ) (g : Got A) (xs : List Binder → List Scoped) (old : List ℕ) (n : ℕ) (table : List ℕ) (r : Indexed) : Type 0 where
  pub ends : ending g ≡ Ok r.next
  pub counted : (bs : List Binder) → r.count ≡ n + length (xs bs)
  pub within : r.count ≤ 3641
  pub further : n ≤ r.count
  pub took : 9 * r.count + at ≤ r.next + 9 * n
  pub rows : (bs : List Binder) → scope row s old n bs → Rows (scopes row) s table n (xs bs)
  pub kept : (k : ℕ) → k < n → row_at (scopes row) table k ≡ row_at (scopes row) old k
  pub size : length table ≡ length old
