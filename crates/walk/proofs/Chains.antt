-- Rows of a table stay what they say while the rows before and at them stay; a row is put; a holder is put around. Assumes nothing.
use mathlib.Core.Path.{◌≡◌, refl, ap}
use mathlib.Core.Bool.{Bool, true, false}
use mathlib.Core.List.{List, [], ◌∷◌, ◌++◌}
use Prim.Native.Nat.{ℕ, ◌+◌, ◌*◌, ◌≤◌, ◌<◌}
use native.Mathlib.Omega.{arith}
use lib.ListN.{length, get_or}
use Rattle.std.specs.Prelude.{Some, None}
use Rattle.condition.specs.Condition.{Binder}
use Rattle.condition.specs.Places.{is_condition, condition_in}
use Rattle.walk.specs.Scopes.{Scoped, under}
use Rattle.walk.specs.Enclosing.{IsHolder, held_in, Chain, joined, Encloses, RowEncloses}
use Rattle.walk.specs.Rows.{Row, scopes, row_at, row_of, below, held_by, InScope, InRow, Says, Rows}

-- the same rows in two tables
abbrev pub SameRows : Bool → List ℕ → List ℕ → ℕ → Type 0
SameRows b t u n = (k : ℕ) → k < n → row_at b u k ≡ row_at b t k

module _ (t u : List ℕ) (k : ℕ) (e : row_at true u k ≡ row_at true t k) where
  same_holder : get_or u (2 * k) 0 ≡ get_or t (2 * k) 0
  unfolding row_at
  same_holder = ap (λ (p : ℕ × ℕ). p.0) e

  same_node : get_or u (2 * k + 1) 0 ≡ get_or t (2 * k + 1) 0
  unfolding row_at
  same_node = ap (λ (p : ℕ × ℕ). p.1) e

module _ (s : List ℕ) where
  chain_on : (t u : List ℕ) (n m : ℕ) → n ≤ m → SameRows true t u n → (h d : ℕ) (ps : List ℕ) → Chain s t n h d ps → Chain s u m h d ps
  unfolding Chain
  chain_on t u n m l e h d [] c = c
  chain_on t u n m l e h d (p ∷ ps) c =
      let b : d < n = c.0.before in
      let f = e d b in
      let w = chain_on t u d d (omega arith) (λ k i. e k (omega arith)) (get_or t (2 * d) 0) (get_or t (2 * d + 1) 0) ps c.1 in
      (record { place = c.0.place; some = c.0.some; holds = c.0.holds; before = omega arith }, rw (same_holder t u d f, same_node t u d f) w)

  module _ (t u : List ℕ) where
    encloses_on : {n h d : ℕ} {bs : List Binder} (m : ℕ) → n ≤ m → SameRows true t u n → Encloses s t n h d bs → Encloses s u m h d bs
    encloses_on {n} {h} {d} m l e c = record { holders = c.holders; chain = chain_on t u n m l e h d c.holders c.chain; value = c.value }

    pub row_on : (i : ℕ) {bs : List Binder} → SameRows true t u (i + 1) → RowEncloses s t i bs → RowEncloses s u i bs
    row_on i e c =
        let f = e i (omega arith) in
        rw (same_holder t u i f, same_node t u i f) (encloses_on i (omega arith) (λ k l. e k (omega arith)) c)

  -- a table whose rows are the same says the same; two runs of rows are one
  says_kept : (b : Bool) (t u : List ℕ) (n : ℕ) (x : Scoped) → SameRows b t u (n + 1) → Says b s t n x → Says b s u n x
  unfolding Says row_at
  says_kept false t u n x e h = let f : get_or u n 0 ≡ get_or t n 0 = ap (λ (p : ℕ × ℕ). p.0) (e n (omega arith)) in rw f h
  says_kept true t u n x e h = row_on t u n e h

  pub rows_kept : (b : Bool) (t u : List ℕ) (n : ℕ) (xs : List Scoped) → SameRows b t u (n + length xs) → Rows b s t n xs → Rows b s u n xs
  unfolding Rows
  rows_kept b t u n [] e h = tt
  rows_kept b t u n (x ∷ xs) e h = (says_kept b t u n x (λ k l. e k (omega arith)) h.0, rows_kept b t u (n + 1) xs (λ k l. e k (omega arith)) h.1)

  pub rows_append : (b : Bool) (t : List ℕ) (n m : ℕ) (xs ys : List Scoped) → m ≡ n + length xs → Rows b s t n xs → Rows b s t m ys → Rows b s t n (xs ++ ys)
  unfolding Rows
  rows_append b t n m [] ys e h i = let z : m ≡ n = omega arith in rw z at i
  rows_append b t n m (x ∷ xs) ys e h i = (h.0, rows_append b t (n + 1) m xs ys (omega arith) h.1 i)

  -- a scope stays what it is
  pub scope_on : (row : Row) (t u : List ℕ) (n m : ℕ) (bs : List Binder) → n ≤ m → SameRows (scopes row) t u n → InScope row s t n bs → InScope row s u m bs
  unfolding scopes InScope
  scope_on None t u n m bs l e h = tt
  scope_on (Some scope) t u n m bs l e h = encloses_on t u m l e h

  pub row_scope_on : (row : Row) (t u : List ℕ) (n m : ℕ) (bs : List Binder) → n ≤ m → SameRows (scopes row) t u n → InRow row s t n bs → InRow row s u m bs
  unfolding scopes InRow
  row_scope_on None t u n m bs l e h = tt
  row_scope_on (Some scope) t u n m bs l e h =
      let i : scope.node < n = h.0 in
      (omega arith, row_on t u scope.node (λ k j. e k (omega arith)) h.1)

  -- what a row says once it is put: of the condition there, and of the scope of what stands below
  put_row : (scope_holder scope_node : ℕ) (t u : List ℕ) (n : ℕ) (bs : List Binder) → row_at true u n ≡ (scope_holder, scope_node) → SameRows true t u n → Encloses s t n scope_holder scope_node bs → RowEncloses s u n bs
  unfolding row_at
  put_row h d t u n bs e k c =
      let f : get_or u (2 * n) 0 ≡ h = ap (λ (p : ℕ × ℕ). p.0) e in
      let g : get_or u (2 * n + 1) 0 ≡ d = ap (λ (p : ℕ × ℕ). p.1) e in
      rw (f, g) (encloses_on t u n (omega arith) k c)

  pub put_says : (row : Row) (t u : List ℕ) (n at : ℕ) (bs : List Binder) → is_condition s at ≡ true → row_at (scopes row) u n ≡ row_of row at → SameRows (scopes row) t u n → InScope row s t n bs → Says (scopes row) s u n (under bs (condition_in s at))
  unfolding scopes row_at row_of InScope Says
  put_says None t u n at bs acc e k h =
      let f : get_or u n 0 ≡ at = ap (λ (p : ℕ × ℕ). p.0) e in
      record { stands = rw f acc; value = ap (condition_in s) f }
  put_says (Some scope) t u n at bs acc e k h = put_row scope.holder scope.node t u n bs e k h

  pub put_below : (row : Row) (t u : List ℕ) (n at : ℕ) (bs : List Binder) → row_at (scopes row) u n ≡ row_of row at → SameRows (scopes row) t u n → InScope row s t n bs → InRow (below row at n) s u (n + 1) bs
  unfolding scopes row_at row_of InScope InRow below
  put_below None t u n at bs e k h = tt
  put_below (Some scope) t u n at bs e k h = (omega arith, put_row scope.holder scope.node t u n bs e k h)

  -- a holder around
  pub hold : (row : Row) (t : List ℕ) (n p : ℕ) (bs : List Binder) → 0 < p → IsHolder s p → InRow row s t n bs → InScope (held_by row p) s t n (bs ++ held_in s p)
  unfolding InRow InScope held_by Chain joined
  hold None t n p bs l i h = tt
  hold (Some scope) t n p bs l i h = record {
    holders = p ∷ h.1.holders;
    chain = (record { place = refl; some = l; holds = i; before = h.0 }, h.1.chain);
    value = ap (λ (l : List Binder). l ++ held_in s p) h.1.value;
  }

pub below_held : (row : Row) (at n : ℕ) → held_by (below row at n) at ≡ below row at n
unfolding below held_by
below_held None at n = refl
below_held (Some scope) at n = refl
