-- The laws of the tables of a record and of the loops over them: what stands at a place, what is left of the reached conditions, and what a row says.
-- Assumes nothing.
use mathlib.Core.Path.{◌≡◌, refl, sym, ap, ap₂, ◌∙◌}
use mathlib.Core.Bool.{true, false}
use mathlib.Core.List.{List, [], ◌∷◌, map}
use Prim.Native.Nat.{ℕ, zero, suc, ◌+◌, ◌*◌, ◌≤◌, ◌<◌}
use native.Mathlib.Nat.{suc-add}
use native.Mathlib.Omega.{arith}
use borrow.Author.Rules.{rules}
use lib.ListN.{length, get_or, take, drop, length-map}
use lib.Seq.{length-take-le, get_or-take}
use Rattle.walk.specs.declared.Indexed.{Indexed}
use Rattle.condition.specs.Condition.{Condition}
use Rattle.condition.specs.Places.{condition_here, is_record, record_in, is_condition, condition_in}
use Rattle.std.specs.Prelude.{Some, None}
use Rattle.walk.specs.Scopes.{Scoped, scoped}
use Rattle.walk.specs.Index.{nodes_of, Indexes, Index, Reached}
use Rattle.walk.specs.Enclosing.{Chain, joined, RowEncloses, around_at, Enclosing}
use Rattle.walk.specs.Rows.{scopes, width, Fits, row_at, InScope, Says, Rows, reached_from, Room, Filled}
use Rattle.walk.specs.Laws.Nodes.{nodes, scoped_nodes}
use Rattle.condition.specs.Laws.Records.{record_small, record_starts, record_value}
use Rattle.walk.proofs.Chains.{row_on}

-- a table whose entries are the same indexes the same
indexes_kept : (s t u : List ℕ) (n : ℕ) (xs : List Condition) → ((k : ℕ) → k < n + length xs → get_or u k 0 ≡ get_or t k 0) → Indexes s t n xs → Indexes s u n xs
unfolding Indexes
indexes_kept s t u n [] e h = tt
indexes_kept s t u n (x ∷ xs) e h = (rw (e n (omega arith)) h.0, indexes_kept s t u (n + 1) xs (λ k l. e k (omega arith)) h.1)

-- the i-th entry
record Entry (s : List ℕ) (at i : ℕ) (xs : List Condition) : Type 0 where
  stands : is_condition s at ≡ true
  rest : drop i xs ≡ condition_in s at ∷ drop (i + 1) xs

entry : (s t : List ℕ) (n i m : ℕ) (xs : List Condition) → m ≡ n + i → Indexes s t n xs → i < length xs → Entry s (get_or t m 0) i xs
unfolding Indexes
entry s t n i m [] e h l = absurd (omega arith)
entry s t n zero m (x ∷ xs) e h l = let z : n ≡ m = omega arith in record { stands = rw (← z) h.0.stands; rest = ap (λ y. y ∷ xs) (sym (ap (λ p. condition_in s (get_or t p 0)) (sym z) ∙ h.0.value)) }
entry s t n (suc i) m (x ∷ xs) e h l =
    let f = entry s t (n + 1) i m xs (omega arith) h.1 (omega arith) in
    record { stands = f.stands; rest = rw suc-add f.rest }

pub reached_there : (s places : List ℕ) (i at : ℕ) → Index s places → i < length places → at ≡ get_or places i 0 → Reached s i at
reached_there s places i at h l q =
    let f = entry s places 0 i i (nodes_of s) (omega arith) h.entries (omega arith) in
    record { stands = rw q f.stands; rest = rw q f.rest }

-- what the rows say, one by one
rows_index : (s t : List ℕ) (n : ℕ) (xs : List Scoped) → Rows false s t n xs → Indexes s t n (nodes xs)
unfolding Rows Says Indexes
rows_index s t n [] h = tt
rows_index s t n (x ∷ xs) h = (h.0, rows_index s t (n + 1) xs h.1)

row_of : (s t : List ℕ) (n i m : ℕ) (xs : List Scoped) → m ≡ n + i → Rows true s t n xs → i < length xs → RowEncloses s t m (get_or (map (λ (x : Scoped). x.around) xs) i [])
unfolding Rows Says
row_of s t n i m [] e h l = absurd (omega arith)
row_of s t n zero m (x ∷ xs) e h l = let z : m ≡ n = omega arith in rw z h.0
row_of s t n (suc i) m (x ∷ xs) e h l = row_of s t (n + 1) i m xs (omega arith) h.1 (omega arith)

-- The tables of a record.
module _ (s : List ℕ) (acc : is_record s ≡ true) where
  -- 3,641 rows are room for any record
  pub place_room : {n : ℕ} → 3641 ≤ n → Room None s 5 n 0
  unfolding width Fits
  place_room h = record { small = record_small s acc; before = omega arith; enough = omega arith; fits = tt }

  pub scope_room : {n : ℕ} → 7282 ≤ n → Room (Some (record { holder = 0; node = 0 })) s 5 n 0
  unfolding width Fits
  scope_room h = record { small = record_small s acc; before = omega arith; enough = omega arith; fits = (omega arith, omega arith) }

  own_nodes : scoped [] (condition_in s 5) ≡ scoped [] (record_in s)
  own_nodes = ap (scoped []) (record_value s acc)

  own_count : length (scoped [] (condition_in s 5)) ≡ length (nodes_of s)
  own_count = ap length own_nodes ∙ sym (length-map (scoped [] (record_in s)) (λ (x : Scoped). x.node)) ∙ ap length (scoped_nodes [] (record_in s))

  pub record_index : {t u : List ℕ} {r : Indexed} → Filled None InScope s 5 (condition_here s 5) (reached_from s 5) t 0 u r → 3641 ≤ length t → Index s (take r.count u)
  unfolding scopes InScope reached_from
  record_index {t} {u} {r} f room =
      let fits : r.count ≤ length u = omega (arith, f.within, f.size) in
      let e : nodes (scoped [] (condition_in s 5)) ≡ nodes_of s = ap nodes own_nodes ∙ scoped_nodes [] (record_in s) in
      let n : r.count ≡ length (nodes_of s) = omega (arith, f.counted [], own_count) in
      let h = rw e at (rows_index s u 0 (scoped [] (condition_in s 5)) (f.rows [] tt)) in
      record {
        size = length-take-le _ _ fits ∙ n;
        entries = indexes_kept s u (take r.count u) 0 (nodes_of s) (λ k l. get_or-take r.count u k 0 (omega arith)) h;
      }

  pub record_enclosing : {t u : List ℕ} {r : Indexed} → Filled (Some (record { holder = 0; node = 0 })) InScope s 5 (condition_here s 5) (reached_from s 5) t 0 u r → 7282 ≤ length t → Enclosing s (take (2 * r.count) u)
  unfolding scopes InScope reached_from around_at Chain joined row_at
  record_enclosing {t} {u} {r} f room =
      let fits : 2 * r.count ≤ length u = omega (arith, f.within, f.size) in
      let n : r.count ≡ length (nodes_of s) = omega (arith, f.counted [], own_count) in
      let h = rw own_nodes at (f.rows [] (record { holders = []; chain = refl; value = refl })) in
      let c : length (scoped [] (record_in s)) ≡ length (nodes_of s) = ap length (sym own_nodes) ∙ own_count in
      record {
        size = length-take-le _ _ fits ∙ ap (λ k. 2 * k) n;
        rows = λ i l.
            row_on s u (take (2 * r.count) u) i
            (λ k j. ap₂ (λ (a b : ℕ). (a, b)) (get_or-take (2 * r.count) u (2 * k) 0 (omega arith)) (get_or-take (2 * r.count) u (2 * k + 1) 0 (omega arith)))
            (row_of s u 0 i i (scoped [] (record_in s)) (omega arith) h (omega arith));
      }

-- the places that a caller lends: the first n entries of its table
pub prefix : {A : Type 0} (n : ℕ) (t : List A) → n ≤ length t → n ≡ length (take n t)
prefix n t h = sym (length-take-le n t h)

pub ruleset indexing = (rules, reached_there, record_starts, place_room, scope_room, record_index, record_enclosing)
