-- The lists of a table: how they are put there, and how one is found. Assumes nothing.
use mathlib.Core.Path.{◌≡◌, refl, sym, ap, ◌∙◌}
use mathlib.Core.Bool.{Bool, true, false, cond}
use mathlib.Core.List.{List, [], ◌∷◌, ◌++◌}
use Prim.Native.Nat.{ℕ, ◌+◌, ◌*◌, ◌-◌, ◌/◌, ◌≤◌, ◌<◌}
use native.Mathlib.Omega.{arith}
use borrow.Author.Count.{below_more}
use borrow.Author.Rules.{rules}
use borrow.Rule.Slice.PartMut.{put_mid, mid_len, same_len_mid, take_put, drop_put}
use lib.ListN.{length, get_or, take, drop, set, length-append, length-take, length-drop, length-set}
use lib.Seq.{length-take-le, take_at, drop_at, take-append-le, take-take, take-set-le, get_or-take, get_or-drop, get_or-set_same, get_or-set_other, ext_get_or}
use Rattle.walk.specs.declared.Directory.{Directory}
use Rattle.names.specs.Lists.{select}
use Rattle.names.specs.Laws.Rows.{listed_length}
use Rattle.nodes.specs.declared.Bound.{Bound}
use Rattle.condition.specs.Condition.{Binder, binder}
use Rattle.condition.specs.Walk.{has_name, named_ones, last_named}
use Rattle.condition.specs.Places.{is_record, is_aggregate}
use Rattle.condition.specs.Laws.Records.{record_small}
use Rattle.nodes.specs.Parts.{is_binders, binders_in, BindersHere, BoundBy}
use Rattle.nodes.specs.Laws.Opens.{aggregate_index}
use Rattle.nodes.specs.Laws.Pieces.{counted_here}
use Rattle.walk.specs.Index.{nodes_of}
use Rattle.walk.specs.Environment.{Environment, SomeEnvironment, SaysOf, MayDeclare, Declared}
use Rattle.walk.specs.Enclosing.{IsHolder, held_in, Enclosing, IsList, entry_at, HasLists, list_count, Bodies}
use Rattle.walk.specs.Lists.{MaySort, SortedFrom, Entered, MayList, MoreLists, HolderIn, RowsOnly, IsEntry, EntryOf}
use Rattle.walk.proofs.ByPlace.{prefix}
use Rattle.walk.proofs.Environments.{entries_fit, environment-is}
use Rattle.walk.proofs.Bindings.{binders_index}
use Rattle.walk.proofs.Holders.{held_aggregate, holder_index, aggregate_stands, no_call}
use Rattle.walk.proofs.Lookups.{holder_of}
use Rattle.std.specs.Prelude.{Some, None}

-- ---- an entry of the directory

-- what is left of it to be searched
pub record Left (table : List ℕ) (low high : ℕ) : Type 0 where
  pub met : low ≤ high
  pub within : high ≤ list_count table

module _ (table : List ℕ) (h : 3 * list_count table < length table) where
  pub left_all : (n : ℕ) → n ≡ list_count table → Left table 0 n
  left_all n e = record { met = omega arith; within = omega arith }

  module _ (low high : ℕ) (l : Left table low high) (some : low < high) (m : ℕ) (middle : m ≡ (low + high) / 2) where
    a : low ≤ m
    a = omega arith

    b : m < high
    b = omega arith

    pub entry-fits : 3 * m + 4 ≤ length table
    entry-fits = omega (arith, l.within)

    pub left_above : Left table (m + 1) high
    left_above = record { met = omega arith; within = l.within }

    pub left_below : Left table low m
    left_below = record { met = a; within = omega (arith, l.within) }

    module _ (e : ℕ) (is : e ≡ entry_at (length table) m) where
      pub entry_index : e < length table
      entry_index = omega (arith, entry-fits)

      pub entry_found : (p at : ℕ) → p ≡ get_or table e 0 → p ≡ at → EntryOf table at (Some e)
      unfolding EntryOf
      entry_found p at v w = (record { number = m; counted = omega (arith, l.within); there = is }, sym v ∙ w)

pub entry_absent : (table : List ℕ) (at : ℕ) → EntryOf table at None
unfolding EntryOf
entry_absent table at = tt

pub ruleset entry_halving = (rules, left_all, entry-fits, left_above, left_below, entry_index, entry_found, entry_absent)

-- ---- the list of an entry

module _ (s table : List ℕ) (b : Bodies s table) (e : ℕ) (i : IsEntry table e) where
  is_list : IsList s table b.free e
  is_list = rw i.there (b.lists.each i.number i.counted)

  module _ (f n : ℕ) (v : f ≡ get_or table (e + 1) 0) (w : n ≡ get_or table (e + 2) 0) where
    pub list-end : f + n ≤ length table
    list-end = omega (arith, is_list.within, b.lists.room)

    list-is : Environment s (held_in s (get_or table e 0)) (take (f + n - f) (drop f table))
    list-is = let z : f + n - f ≡ n = omega arith in rw (z, v, w) is_list.list

    pub list_some : SomeEnvironment s (take (f + n - f) (drop f table))
    list_some = record { declared = held_in s (get_or table e 0); is = list-is }

    pub list_says : (name : List ℕ) (r : Bound) → SaysOf s (take (f + n - f) (drop f table)) name r → BoundBy s (last_named name (held_in s (get_or table e 0))) r
    list_says name r y = y.of _ list-is

pub ruleset entered_list = (rules, list-end, list_some, list_says)

-- ---- a list is put

few_named : (bs : List Binder) → length (named_ones bs) ≤ length bs
unfolding named_ones select
few_named [] = omega arith
few_named (x ∷ xs) = go (has_name x.slot) (few_named xs)
  where
    go : (b : Bool) → length (named_ones xs) ≤ length xs → length (cond b (x ∷ named_ones xs) (named_ones xs)) ≤ length (x ∷ xs)
    go true h = omega arith
    go false h = omega arith

-- what two tables have the same: entry by entry, and so in parts
part_same : (t u : List ℕ) (f n limit : ℕ) → length u ≡ length t → ((i : ℕ) → i < limit → get_or u i 0 ≡ get_or t i 0) → f + n ≤ limit → take n (drop f u) ≡ take n (drop f t)
part_same t u f n limit e h l =
    ext_get_or 0 (take n (drop f u)) (take n (drop f t)) (simp (length-take, length-drop, e)) (λ i k.
    let z : i < n = omega (arith, simp length-take at k) in
    get_or-take n (drop f u) i 0 z ∙ get_or-drop f u i 0 ∙ h (f + i) (omega arith) ∙ sym (get_or-take n (drop f t) i 0 z ∙ get_or-drop f t i 0))

module _ (s : List ℕ) (start : ℕ) (acc : is_binders s start ≡ true) (t : List ℕ) (from end : ℕ) (may : MaySort s start t from end) where
  all_named : length (named_ones (binders_in s start)) ≤ get_or s start 0
  unfolding binders_in
  all_named = omega (arith, few_named (binders_in s start), listed_length binder s (binders_in s start) (get_or s start 0) (start + 1) (counted_here binder s start acc))

  pub sort_may : MayDeclare s (binders_in s start) (take (end - from) (drop from t)) 0
  sort_may = record {
    small = may.small;
    sorted = record { ascend = λ i j k l. absurd (omega arith) };
    room = omega (arith, mid_len from end t may.within, all_named, may.room);
  }

  module _ (v : List ℕ) (n : ℕ) (q : Declared s (binders_in s start) (take (end - from) (drop from t)) 0 v n) where
    meets : from ≤ end
    meets = omega (arith, may.room)

    as_long : length v ≡ end - from
    as_long = q.size ∙ mid_len from end t may.within

    before : (i : ℕ) → i < from → get_or (put_mid from (end - from) t v) i 0 ≡ get_or t i 0
    before i l =
        let h : from ≤ length t = omega (arith, meets, may.within) in
        sym (get_or-take from (put_mid from (end - from) t v) i 0 l) ∙ ap (λ x. get_or x i 0) (take_put from (end - from) t v h) ∙ get_or-take from t i 0 l

    behind : (i : ℕ) → end ≤ i → get_or (put_mid from (end - from) t v) i 0 ≡ get_or t i 0
    behind i l =
        let z : end + (i - end) ≡ i = omega arith in
        ap (λ m. get_or (put_mid from (end - from) t v) m 0) (sym z) ∙ sym (get_or-drop end (put_mid from (end - from) t v) (i - end) 0)
        ∙ ap (λ x. get_or x (i - end) 0) (drop_put from end t v meets may.within as_long)
        ∙ get_or-drop end t (i - end) 0 ∙ ap (λ m. get_or t m 0) z

    pub sorted_from : SortedFrom s (binders_in s start) t from end (put_mid from (end - from) t v) n
    sorted_from =
        let few : n ≤ length v = entries_fit s (take (end - from) (drop from t)) (binders_in s start) v n q sort_may in
        let h : length (take from t) ≡ from = length-take-le from t (omega (arith, meets, may.within)) in
        record {
          within = omega (arith, meets, as_long);
          list = rw (drop_at (take from t) (v ++ drop (end - from) (drop from t)) from h, take-append-le n v (drop (end - from) (drop from t)) few) (environment-is s (take (end - from) (drop from t)) (binders_in s start) v n q);
          others = record { before = before; behind = behind; size = same_len_mid from (end - from) t v q.size };
        }

pub ruleset sorting = (rules, sort_may, sorted_from)

-- ---- its entry is put

module _ (t : List ℕ) (e : ℕ) (h : e + 3 ≤ length t) (place from count : ℕ) where
  pub second_index : e + 1 < length (set t e place)
  second_index = rw length-set (omega arith)

  pub third_index : e + 2 < length (set (set t e place) (e + 1) from)
  third_index = rw (length-set, length-set) (omega arith)

  pub entered_three : Entered t e place from count (set (set (set t e place) (e + 1) from) (e + 2) count)
  entered_three = record {
    holder = get_or-set_other (set (set t e place) (e + 1) from) (e + 2) e count 0 (λ q. omega arith) ∙ get_or-set_other (set t e place) (e + 1) e from 0 (λ q. omega arith) ∙ get_or-set_same t e place 0 (omega arith);
    starts = get_or-set_other (set (set t e place) (e + 1) from) (e + 2) (e + 1) count 0 (λ q. omega arith) ∙ get_or-set_same (set t e place) (e + 1) from 0 second_index;
    counts = get_or-set_same (set (set t e place) (e + 1) from) (e + 2) count 0 third_index;
    others = record {
      before = λ i l. other i (λ q. omega arith) (λ q. omega arith) (λ q. omega arith);
      behind = λ i l. other i (λ q. omega arith) (λ q. omega arith) (λ q. omega arith);
      size = simp length-set;
    };
  }
    where
      other : (i : ℕ) → (i ≡ e → ⊥) → (i ≡ e + 1 → ⊥) → (i ≡ e + 2 → ⊥) → get_or (set (set (set t e place) (e + 1) from) (e + 2) count) i 0 ≡ get_or t i 0
      other i a b c = get_or-set_other (set (set t e place) (e + 1) from) (e + 2) i count 0 c ∙ get_or-set_other (set t e place) (e + 1) i from 0 b ∙ get_or-set_other t e i place 0 a

pub ruleset entering = (rules, second_index, third_index, entered_three)

-- ---- the lists stay, and there is one more

module _ (s t u : List ℕ) (free more : ℕ) (further : free ≤ more) (size : length u ≡ length t) (before : (i : ℕ) → i < free → get_or u i 0 ≡ get_or t i 0) where
  list_on : (e : ℕ) → ((i : ℕ) → e ≤ i → i < e + 3 → get_or u i 0 ≡ get_or t i 0) → IsList s t free e → IsList s u more e
  list_on e same l =
      let a : get_or u e 0 ≡ get_or t e 0 = same e (omega arith) (omega arith) in
      let b : get_or u (e + 1) 0 ≡ get_or t (e + 1) 0 = same (e + 1) (omega arith) (omega arith) in
      let c : get_or u (e + 2) 0 ≡ get_or t (e + 2) 0 = same (e + 2) (omega arith) (omega arith) in
      record { within = rw (b, c) (omega (arith, l.within)); list = rw (a, b, c, part_same t u (get_or t (e + 1) 0) (get_or t (e + 2) 0) free size before l.within) l.list }

  lists_on : (count : ℕ) → HasLists s t free count → ((i : ℕ) → length t - (3 * count + 1) ≤ i → i < length t - 1 → get_or u i 0 ≡ get_or t i 0) → (k : ℕ) → k < count → IsList s u more (entry_at (length u) k)
  lists_on count h same k l = rw size (list_on (entry_at (length t) k) (λ i a b. same i (omega (arith, h.room)) (omega (arith, h.room))) (h.each k l))

module _ (s t : List ℕ) (d : Directory) (may : MayList s t d) where
  pub no_more : MoreLists s t d.free t d
  no_more = record { may = may; further = omega arith; before = λ i l. refl; size = refl }

  module _ (at : ℕ) (acc : is_aggregate s at ≡ true) (start : ℕ) (b : BindersHere s at start) where
    pub start_index : start < length s
    start_index = binders_index s start b.stands

    pub place-fits : at < 65536
    place-fits = omega (arith, aggregate_index s at acc, may.small)

    pub start_stands : is_binders s start ≡ true
    start_stands = b.stands

    module _ (most : ℕ) (w : most ≡ get_or s start 0) (room : d.free + most + 3 * d.count + 4 ≤ length t) (e : ℕ) (is : e ≡ entry_at (length t) d.count) where
      pub list_may : MaySort s start t d.free e
      list_may = record { small = may.small; room = omega arith; within = omega arith }

      module _ (u : List ℕ) (n : ℕ) (q : SortedFrom s (binders_in s start) t d.free e u n) where
        pub enter_room : e + 3 ≤ length u
        enter_room = omega (arith, q.others.size)

        pub from_small : d.free < 65536
        from_small = omega (arith, may.short)

        pub size_small : n < 65536
        size_small = omega (arith, may.short, q.within)

        pub one_more : (v : List ℕ) → Entered u e at d.free n v → MoreLists s t d.free v (record { free = d.free + n; count = d.count + 1; last = at })
        one_more v x =
            let size : length v ≡ length t = x.others.size ∙ q.others.size in
            let before : (i : ℕ) → i < d.free → get_or v i 0 ≡ get_or t i 0 = λ i l. x.others.before i (omega (arith, q.within)) ∙ q.others.before i l in
            record {
              may = record {
                small = may.small;
                short = omega (arith, may.short);
                so = record {
                  room = omega (arith, q.within);
                  each = below_more (λ k. IsList s v (d.free + n) (entry_at (length v) k)) d.count
                      (lists_on s t v d.free (d.free + n) (omega arith) size before d.count may.so (λ i l k. x.others.behind i (omega arith) ∙ q.others.behind i (omega arith)))
                      (rw size (rw (← is) new));
                };
              };
              further = omega arith;
              before = before;
              size = size;
            }
          where
            held : held_in s at ≡ binders_in s start
            held = held_aggregate s at acc ∙ b.value

            new : IsList s v (d.free + n) e
            new = record {
              within = rw (x.starts, x.counts) (omega arith);
              list = rw (x.holder, x.starts, x.counts, held, part_same u v d.free n e x.others.size x.others.before q.within) q.list;
            }

pub ruleset listing = (rules, no_more, start_index, place-fits, start_stands, list_may, enter_room, from_small, size_small, one_more)

-- ---- those of holders, of rows

pub row_holder : (s t : List ℕ) (i : ℕ) → HolderIn s t i → (p : ℕ) → p ≡ get_or t i 0 → (n : ℕ) → n < p → IsHolder s p
row_holder s t i h p e n l = rw e (h.holds (omega arith))

pub ruleset listing_holder = (rules, no_more, holder_index, aggregate_stands, no_call, row_holder)

-- in a table that begins with rows
pub record ListingOn (s old : List ℕ) (rows : ℕ) (table : List ℕ) (d : Directory) : Type 0 where
  pub so : MoreLists s old rows table d

module _ (s t : List ℕ) (rows : ℕ) (h : RowsOnly s t rows) where
  pub rows_begin : ListingOn s t rows t (record { free = rows; count = 0; last = 0 })
  rows_begin = record {
    so = record {
      may = record { small = h.small; short = h.short; so = record { room = omega (arith, h.room); each = λ k l. absurd (omega arith) } };
      further = omega arith;
      before = λ i l. refl;
      size = refl;
    };
  }

  count_rows : rows ≡ 2 * length (nodes_of s)
  count_rows = sym (length-take-le rows t (omega (arith, h.room))) ∙ h.enclosing.size

  module _ (u : List ℕ) (d : Directory) (inv : ListingOn s t rows u d) where
    module _ (row : ℕ) (turn : row < rows / 2) where
      l : 2 * row < rows
      l = omega arith

      pub row_index : 2 * row < length u
      row_index = omega (arith, inv.so.size, h.room)

      pub row_holds : HolderIn s u (2 * row)
      row_holds =
          let e : get_or u (2 * row) 0 ≡ get_or (take rows t) (2 * row) 0 = inv.so.before (2 * row) l ∙ sym (get_or-take rows t (2 * row) 0 l) in
          record { holds = λ z. rw e (holder_of s (take rows t) row _ (h.enclosing.rows row (omega (arith, count_rows))) (λ q. omega (arith, e))) }

      pub rows_next : (v : List ℕ) (c : Directory) → MoreLists s u d.free v c → ListingOn s t rows v c
      rows_next v c m = record {
        so = record {
          may = m.may;
          further = omega (arith, m.further, inv.so.further);
          before = λ i k. m.before i (omega (arith, inv.so.further)) ∙ inv.so.before i k;
          size = m.size ∙ inv.so.size;
        };
      }

    pub row_may : MayList s u d
    row_may = inv.so.may

    pub count_small : d.count < 65536
    count_small = omega (arith, inv.so.may.so.room, inv.so.may.short)

    pub rows_done : Bodies s (set u (length u - 1) d.count)
    rows_done =
        let size : length (set u (length u - 1) d.count) ≡ length u = length-set u (length u - 1) d.count in
        let some : d.free + 3 * d.count < length u = inv.so.may.so.room in
        let same : (i : ℕ) → i < length u - 1 → get_or (set u (length u - 1) d.count) i 0 ≡ get_or u i 0 = λ i l. get_or-set_other u (length u - 1) i d.count 0 (λ q. omega arith) in
        let counted : list_count (set u (length u - 1) d.count) ≡ d.count = ap (λ n. get_or (set u (length u - 1) d.count) (n - 1) 0) size ∙ get_or-set_same u (length u - 1) d.count 0 (omega arith) in
        record {
          rows = rows;
          enclosing = rw (take-set-le rows u (length u - 1) d.count (omega (arith, inv.so.further)), part_same t u 0 rows rows inv.so.size inv.so.before (omega arith)) h.enclosing;
          free = d.free;
          lists = rw counted (record {
            room = omega arith;
            each = lists_on s u (set u (length u - 1) d.count) d.free d.free (omega arith) size (λ i l. same i (omega arith)) d.count inv.so.may.so (λ i l k. same i k);
          });
        }

pub ruleset listing_rows = (rules, rows_begin, row_index, row_holds, row_may, rows_next, count_small, rows_done)

-- ---- of a record

module _ (s old t : List ℕ) (acc : is_record s ≡ true) (room : 10921 ≤ length old) (same : length t ≡ length old) where
  pub size : 10921 ≡ length (take 10921 t)
  size = prefix 10921 t (omega arith)

  pub rows_only : (rows : ℕ) → rows ≤ 7282 → Enclosing s (take rows t) → RowsOnly s (take 10921 t) rows
  rows_only rows l h = record {
    small = omega (arith, record_small s acc);
    short = omega (arith, size);
    room = omega (arith, size);
    enclosing = rw (take-take rows 10921 t (omega arith)) h;
  }

  module _ (u : List ℕ) (long : length (u ++ drop 10921 t) ≡ length t) where
    pub bodies_fit : 10921 ≤ length (u ++ drop 10921 t)
    bodies_fit = omega arith

    pub bodies_there : Bodies s u → Bodies s (take 10921 (u ++ drop 10921 t))
    bodies_there b = rw (take_at u (drop 10921 t) 10921 (omega (arith, long, length-append u (drop 10921 t), length-drop 10921 t))) b

pub ruleset listing_record = (rules, size, rows_only, bodies_fit, bodies_there)
