-- Tables of places sorted by name: a name found by halving, an entry replaced, an entry put in. Assumes nothing.
use mathlib.Core.Path.{◌≡◌, refl, sym, ap, ◌∙◌}
use mathlib.Core.Bool.{Bool, true, false}
use mathlib.Core.List.{List, ◌∷◌, ◌++◌}
use Prim.Native.Nat.{ℕ, suc, ◌+◌, ◌-◌, ◌≤◌, ◌<◌}
use native.Mathlib.Omega.{arith}
use borrow.Author.Count.{below_more}
use borrow.Author.Rules.{rules}
use borrow.Author.Tests.{ltb-true, ltb-false}
use lib.Dec.{eqb, ltb}
use lib.ListN.{length, get_or, take, drop, set, length-append, length-drop, length-set, get_or-append}
use lib.Seq.{length-take-le, get_or-take, get_or-drop, get_or_at, get_or-append-add, get_or-set_same, get_or-set_other, ext_get_or}
use Rattle.std.specs.declared.cmp.Ordering.{Ordering}
use Rattle.std.specs.declared.cmp.Ordering.TheVariants.{Less, Equal, Greater}
use Rattle.names.specs.Names.{below, order}
use Rattle.names.specs.Laws.Names.{below_order, order_flip, order_same, below_trans}
use Rattle.names.specs.Order.{order_number}
use Rattle.nodes.specs.Parts.{name_in}
use Rattle.std.specs.Prelude.{Ok, Err}
use Rattle.std.specs.List.{CopiedTo, SameBelow}
use Rattle.walk.specs.Environment.{name_at, Sorted, SpotOf, insert_at, Inserted}

-- ---- the search: those before `low` are below the name, those from `high` on above it

pub record Between (s table name : List ℕ) (low high : ℕ) : Type 0 where
  pub met : low ≤ high
  pub within : high ≤ length table
  pub before : (i : ℕ) → i < low → below (name_at s table i) name ≡ true
  pub after : (i : ℕ) → high ≤ i → i < length table → below name (name_at s table i) ≡ true

is_above : (v w : List ℕ) → order v w ≡ 2 → below w v ≡ true
is_above v w h = let z : 2 - order v w ≡ 0 = omega arith in below_order w v ∙ ap (λ n. eqb n 0) (order_flip v w ∙ z)

module _ (s table name : List ℕ) where
  pub all_between : Between s table name 0 (length table)
  all_between = record { met = omega arith; within = omega arith; before = λ i h. absurd (omega arith); after = λ i h k. absurd (omega arith) }

  module _ (low high : ℕ) (b : Between s table name low high) where
    pub not_found : high ≤ low → SpotOf s table name (Err low)
    unfolding SpotOf
    not_found h = record { within = omega (arith, b.met, b.within); before = b.before; missing = λ i k l. b.after i (omega (arith, b.met)) l }

    module _ (sorted : Sorted s table) (m : ℕ) (h : low ≤ m) (k : m < high) where
      pub middle_index : m < length table
      middle_index = omega (arith, b.within)

      -- how the name of the entry in the middle stands to the name
      module _ (p : ℕ) (e : p ≡ get_or table m 0) (w : List ℕ) (j : w ≡ name_in s p) (o : Ordering) (q : order_number o ≡ order w name) where
        here_ordered : order_number o ≡ order (name_at s table m) name
        unfolding name_at
        here_ordered = q ∙ ap (λ v. order v name) (j ∙ ap (name_in s) e)

        pub found_spot : o ≡ Equal → SpotOf s table name (Ok m)
        unfolding SpotOf
        found_spot is =
            let here : name_at s table m ≡ name = order_same _ _ (sym here_ordered ∙ ap order_number is) in
            record { within = middle_index; here = here; before = λ i l. rw here at (sorted.ascend i m l middle_index) }

        pub go_up : o ≡ Less → Between s table name (m + 1) high
        go_up is =
            let here : below (name_at s table m) name ≡ true = below_order _ _ ∙ ap (λ n. eqb n 0) (sym here_ordered ∙ ap order_number is) in
            record {
              met = omega arith;
              within = b.within;
              before = below_more (λ i. below (name_at s table i) name ≡ true) m (λ i l. below_trans _ _ _ (sorted.ascend i m l middle_index) here) here;
              after = b.after;
            }

        pub go_down : o ≡ Greater → Between s table name low m
        go_down is =
            let here : below name (name_at s table m) ≡ true = is_above _ _ (sym here_ordered ∙ ap order_number is) in
            record { met = h; within = omega (arith, middle_index); before = b.before; after = λ i l n. later here i l n (ltb m i) refl }
          where
            later : below name (name_at s table m) ≡ true → (i : ℕ) → m ≤ i → i < length table → (t : Bool) → ltb m i ≡ t → below name (name_at s table i) ≡ true
            later here i l n true f = below_trans _ _ _ here (sorted.ascend m i (ltb-true m i f) n)
            later here i l n false f = let z : m ≡ i = omega (arith, ltb-false m i f) in rw (← z) here

pub ruleset halving = (rules, all_between, not_found, middle_index, found_spot, go_up, go_down)

-- ---- one entry more

-- an entry's index: before the place of a new one, there, or behind it
pub data Beside (at : ℕ) (k : ℕ) : Type 0 where
  before : k < at → Beside at k
  here : k ≡ at → Beside at k
  behind : (j : ℕ) → k ≡ j + 1 → at ≤ j → Beside at k

pub beside : (at k : ℕ) → Beside at k
beside at k = go (ltb k at) (ltb at k) refl refl
  where
    go : (p q : Bool) → ltb k at ≡ p → ltb at k ≡ q → Beside at k
    go true q e f = before (ltb-true k at e)
    go false true e f = behind (k - 1) (omega (arith, ltb-true at k f)) (omega (arith, ltb-true at k f))
    go false false e f = here (omega (arith, ltb-false k at e, ltb-false at k f))

module _ (at p : ℕ) (l : List ℕ) (h : at ≤ length l) where
  pub insert_length : length (insert_at at p l) ≡ length l + 1
  unfolding insert_at
  insert_length = simp (length-append, length-take-le at l h, length-drop) (omega arith)

  pub insert_before : (k : ℕ) → k < at → get_or (insert_at at p l) k 0 ≡ get_or l k 0
  unfolding insert_at
  insert_before k i =
      let z : k < length (take at l) = rw (length-take-le at l h) i in
      get_or-append (take at l) (p ∷ drop at l) 0 k z ∙ get_or-take at l k 0 i

  pub insert_here : get_or (insert_at at p l) at 0 ≡ p
  unfolding insert_at
  insert_here = get_or_at (take at l) p (drop at l) 0 at (length-take-le at l h)

  pub insert_behind : (k : ℕ) → at ≤ k → get_or (insert_at at p l) (k + 1) 0 ≡ get_or l k 0
  unfolding insert_at
  insert_behind k i =
      let z : k + 1 ≡ length (take at l) + suc (k - at) = rw (length-take-le at l h) (omega arith) in
      let y : at + (k - at) ≡ k = omega arith in
      ap (λ n. get_or (take at l ++ (p ∷ drop at l)) n 0) z ∙ get_or-append-add (take at l) (p ∷ drop at l) (suc (k - at)) 0 ∙ get_or-drop at l (k - at) 0 ∙ ap (λ n. get_or l n 0) y

-- those from `at` on have moved one on, up to n
module _ (old : List ℕ) (n at p : ℕ) (low : at ≤ n) (room : n < length old) (table : List ℕ) (size : length table ≡ length old) where
  module _ (moved : CopiedTo old table at (at + 1) (n - at)) (kept : SameBelow old table (at + 1)) where
    pub shift_done : Inserted old n at p (set table at p)
    shift_done = record { entries = ext_get_or 0 _ _ (long ∙ sym (insert_length at p (take n old) fits ∙ ap (λ m. m + 1) short)) (λ k l. each k (rw long at l) (beside at k)); size = length-set table at p ∙ size }
      where
        short : length (take n old) ≡ n
        short = length-take-le n old (omega arith)

        fits : at ≤ length (take n old)
        fits = rw short low

        long : length (take (n + 1) (set table at p)) ≡ n + 1
        long = length-take-le (n + 1) (set table at p) (rw (length-set table at p) (omega (arith, size)))

        each : (k : ℕ) → k < n + 1 → Beside at k → get_or (take (n + 1) (set table at p)) k 0 ≡ get_or (insert_at at p (take n old)) k 0
        each k l (before h) =
            get_or-take (n + 1) (set table at p) k 0 l ∙ get_or-set_other table at k p 0 (λ e. omega arith) ∙ kept k 0 (omega arith)
            ∙ sym (insert_before at p (take n old) fits k h ∙ get_or-take n old k 0 (omega arith))
        each k l (here e) =
            get_or-take (n + 1) (set table at p) k 0 l ∙ ap (λ m. get_or (set table at p) m 0) e ∙ get_or-set_same table at p 0 (omega (arith, size))
            ∙ sym (ap (λ m. get_or (insert_at at p (take n old)) m 0) e ∙ insert_here at p (take n old) fits)
        each k l (behind j e h) =
            let z : at + (k - (at + 1)) ≡ j = omega arith in
            get_or-take (n + 1) (set table at p) k 0 l ∙ get_or-set_other table at k p 0 (λ q. omega arith) ∙ moved k 0 (omega arith) (omega arith) ∙ ap (λ m. get_or old m 0) z
            ∙ sym (ap (λ m. get_or (insert_at at p (take n old)) m 0) e ∙ insert_behind at p (take n old) fits j h ∙ get_or-take n old j 0 (omega arith))
