-- The environment of some binders and of one binder more, from no binder on, and the search for a name in it. Assumes nothing.
use mathlib.Core.Path.{◌≡◌, refl, sym, ap, ◌∙◌}
use mathlib.Core.Bool.{Bool, true, false, cond, false≢true}
use mathlib.Core.List.{List, [], ◌∷◌, ◌++◌, append_assoc, append-nil}
use mathlib.Core.Option.{none, some}
use Prim.Native.Nat.{ℕ, ◌+◌, ◌≤◌, ◌<◌}
use native.Mathlib.Omega.{arith}
use borrow.Author.Rules.{rules}
use borrow.Author.Tests.{ltb-true, ltb-false, eqb-true, eqb-false}
use lib.Dec.{eqb, ltb}
use lib.ListN.{length, get_or, take, set, length-set}
use lib.Seq.{length-take-le, take-set-lt, get_or-set_same, get_or-set_other}
use Rattle.names.specs.Lists.{maybe, select}
use Rattle.names.specs.Names.{same, below}
use Rattle.names.specs.Laws.Names.{same_refl, same_eq, below_order, order_refl}
use Rattle.std.specs.Prelude.{Result, Ok, Err}
use Rattle.nodes.specs.declared.Bound.{Bound}
use Rattle.nodes.specs.declared.Bound.TheVariants.{Nothing}
use Rattle.condition.specs.Condition.{Slot, named, param_ref, binder_ref, Annotation, Binder, slot}
use Rattle.condition.specs.Walk.{binders, has_name, named_ones, named_here, last_named}
use Rattle.condition.specs.Places.{is_record, record_in, is_slot, is_annotation, annotation_in, is_binder, binder_in}
use Rattle.condition.specs.Laws.Sizes.{named_append, record_bytes}
use Rattle.nodes.specs.Looked.{Skipped}
use Rattle.nodes.specs.Parts.{BoundBy, name_in}
use Rattle.walk.specs.Environment.{name_at, Sorted, Entry, Environment, SomeEnvironment, SaysOf, SpotOf, Stands, Belongs, insert_at, Inserted, MayDeclare, Declared}
use Rattle.condition.specs.Laws.Records.{record_small}
use Rattle.walk.proofs.ByPlace.{prefix}
use Rattle.walk.specs.Laws.Named.{last_append}
use Rattle.nodes.specs.Laws.Binders.{says_nothing, binder_index, own_slot, binder_slot, binder_annotation, annotation-is}
use Rattle.walk.proofs.Spots.{Beside, before, here, behind, beside, insert_length, insert_before, insert_here, insert_behind}

pub place_small : (s : List ℕ) (at : ℕ) → is_binder s at ≡ true → {new : List Binder} {t : List ℕ} {n : ℕ} → MayDeclare s new t n → at < 65536
place_small s at acc h = omega (arith, binder_index s at acc, h.small)

-- ---- what one binder more says of a name

nameless : (name : List ℕ) (a : Annotation) (x : Slot) → has_name x ≡ false → named_here name a x ≡ none
unfolding named_here
nameless name a (named n) h = absurd (false≢true (sym h))
nameless name a param_ref h = refl
nameless name a binder_ref h = refl

module _ (bs : List Binder) (b : Binder) (name : List ℕ) where
  last_one : last_named name (bs ++ (b ∷ [])) ≡ maybe (last_named name bs) some (named_here name b.annotation b.slot)
  unfolding last_named
  last_one = last_append name bs (b ∷ [])

  unnamed_last : has_name b.slot ≡ false → last_named name (bs ++ (b ∷ [])) ≡ last_named name bs
  unnamed_last h = last_one ∙ ap (maybe (last_named name bs) some) (nameless name b.annotation b.slot h)

  module _ (w : List ℕ) (is : b.slot ≡ named w) where
    named_here_lem : named_here name b.annotation b.slot ≡ cond (same w name) (some b.annotation) none
    unfolding named_here
    named_here_lem = ap (named_here name b.annotation) is

    other_last : same w name ≡ false → last_named name (bs ++ (b ∷ [])) ≡ last_named name bs
    other_last h = last_one ∙ ap (maybe (last_named name bs) some) (named_here_lem ∙ ap (λ t. cond t (some b.annotation) none) h)

    own_last : same w name ≡ true → last_named name (bs ++ (b ∷ [])) ≡ some b.annotation
    own_last h = last_one ∙ ap (maybe (last_named name bs) some) (named_here_lem ∙ ap (λ t. cond t (some b.annotation) none) h)

-- ---- names that differ

below_self : (w : List ℕ) → below w w ≡ false
below_self w = below_order w w ∙ ap (λ n. eqb n 0) (order_refl w)

module _ (v w : List ℕ) (h : below v w ≡ true) where
  below_differs : same v w ≡ false
  below_differs = go (same v w) refl
    where
      go : (b : Bool) → same v w ≡ b → same v w ≡ false
      go true e = let z : v ≡ w = same_eq v w e in absurd (false≢true (sym (below_self w) ∙ rw z at h))
      go false e = e

  above_differs : same w v ≡ false
  above_differs = go (same w v) refl
    where
      go : (b : Bool) → same w v ≡ b → same w v ≡ false
      go true e = let z : w ≡ v = same_eq w v e in absurd (false≢true (sym (below_self v) ∙ rw z at h))
      go false e = e

-- ---- the environment with one binder more: unnamed, in place of the one of its name, or put in

module _ (s : List ℕ) (bs : List Binder) (l : List ℕ) (env : Environment s bs l) (at : ℕ) where
  unnamed_on : has_name (binder_in s at).slot ≡ false → Environment s (bs ++ (binder_in s at ∷ [])) l
  unnamed_on h = record {
    entries = λ i k. let e = env.entries i k in record { stands = e.stands; slot = e.slot; last = unnamed_last bs (binder_in s at) _ h ∙ e.last };
    sorted = env.sorted;
    complete = λ name n. unnamed_last bs (binder_in s at) name h ∙ env.complete name n;
  }

-- the names, with a place of the same name in place of the i-th
module _ (s l : List ℕ) (at i : ℕ) (h : i < length l) (e : name_at s l i ≡ name_in s at) where
  name_set : (k : ℕ) → name_at s (set l i at) k ≡ name_at s l k
  unfolding name_at
  name_set k = go (eqb k i) refl
    where
      go : (b : Bool) → eqb k i ≡ b → name_in s (get_or (set l i at) k 0) ≡ name_in s (get_or l k 0)
      go true q = let z : k ≡ i = eqb-true k i q in ap (λ m. name_in s (get_or (set l i at) m 0)) z ∙ ap (λ m. name_in s m) (get_or-set_same l i at 0 h) ∙ sym (ap (λ m. name_in s (get_or l m 0)) z ∙ e)
      go false q = ap (λ m. name_in s m) (get_or-set_other l i k at 0 (eqb-false k i q))

  set_sorted : Sorted s l → Sorted s (set l i at)
  set_sorted o = record { ascend = λ j k p q. rw (name_set j, name_set k) (o.ascend j k p (rw (length-set l i at) at q)) }

-- the names, with one put in where it belongs
module _ (s l : List ℕ) (at i : ℕ) (h : i ≤ length l) (low : (k : ℕ) → k < i → below (name_at s l k) (name_in s at) ≡ true) (high : (k : ℕ) → i ≤ k → k < length l → below (name_in s at) (name_at s l k) ≡ true) where
  -- what each index has: the own name, or another that stands before or behind
  name_before : (k : ℕ) → k < i → name_at s (insert_at i at l) k ≡ name_at s l k
  unfolding name_at
  name_before k p = ap (λ m. name_in s m) (insert_before i at l h k p)

  name_here : name_at s (insert_at i at l) i ≡ name_in s at
  unfolding name_at
  name_here = ap (λ m. name_in s m) (insert_here i at l h)

  name_behind : (k : ℕ) → i ≤ k → name_at s (insert_at i at l) (k + 1) ≡ name_at s l k
  unfolding name_at
  name_behind k p = ap (λ m. name_in s m) (insert_behind i at l h k p)

  insert_sorted : Sorted s l → Sorted s (insert_at i at l)
  insert_sorted o = record { ascend = λ j k p q. go j k p (rw (insert_length i at l h) at q) (beside i j) (beside i k) }
    where
      go : (j k : ℕ) → j < k → k < length l + 1 → Beside i j → Beside i k → below (name_at s (insert_at i at l) j) (name_at s (insert_at i at l) k) ≡ true
      go j k p q (before x) (before y) = rw (name_before j x, name_before k y) (o.ascend j k p (omega arith))
      go j k p q (before x) (here y) = rw (y, name_before j x, name_here) (low j x)
      go j k p q (before x) (behind m y z) = rw (y, name_before j x, name_behind m z) (o.ascend j m (omega arith) (omega arith))
      go j k p q (here x) (before y) = absurd (omega arith)
      go j k p q (here x) (here y) = absurd (omega arith)
      go j k p q (here x) (behind m y z) = rw (x, y, name_here, name_behind m z) (high m z (omega arith))
      go j k p q (behind n x v) (before y) = absurd (omega arith)
      go j k p q (behind n x v) (here y) = absurd (omega arith)
      go j k p q (behind n x v) (behind m y z) = rw (x, y, name_behind n v, name_behind m z) (o.ascend n m (omega arith) (omega arith))

  apart : (k : ℕ) → k < length l → same (name_in s at) (name_at s l k) ≡ false
  apart k p = go (ltb k i) refl
    where
      go : (b : Bool) → ltb k i ≡ b → same (name_in s at) (name_at s l k) ≡ false
      go true q = above_differs _ _ (low k (ltb-true k i q))
      go false q = below_differs _ _ (high k (ltb-false k i q) p)

module _ (s : List ℕ) (bs : List Binder) (l : List ℕ) (env : Environment s bs l) (at : ℕ) (acc : is_binder s at ≡ true) (has : has_name (binder_in s at).slot ≡ true) where
  own_entry : Entry s (bs ++ (binder_in s at ∷ [])) at
  own_entry = record { stands = acc; slot = own_slot s at acc has; last = own_last bs (binder_in s at) _ (name_in s at) (own_slot s at acc has) (same_refl _) }

  kept_entry : (k : ℕ) → k < length l → same (name_in s at) (name_at s l k) ≡ false → Entry s (bs ++ (binder_in s at ∷ [])) (get_or l k 0)
  unfolding name_at
  kept_entry k p h = let e = env.entries k p in record { stands = e.stands; slot = e.slot; last = other_last bs (binder_in s at) _ (name_in s at) (own_slot s at acc has) h ∙ e.last }

  -- a name that no entry has, nor the new one
  kept_none : (name : List ℕ) → same (name_in s at) name ≡ false → ((k : ℕ) → k < length l → same (name_at s l k) name ≡ false) → last_named name (bs ++ (binder_in s at ∷ [])) ≡ none
  kept_none name h n = other_last bs (binder_in s at) name (name_in s at) (own_slot s at acc has) h ∙ env.complete name n

  replaced_on : (i : ℕ) → i < length l → name_at s l i ≡ name_in s at → Environment s (bs ++ (binder_in s at ∷ [])) (set l i at)
  replaced_on i h e = record {
    entries = λ k p. entry k (rw (length-set l i at) at p) (beside i k);
    sorted = set_sorted s l at i h e env.sorted;
    complete = λ name n.
        let m : (k : ℕ) → k < length l → same (name_at s l k) name ≡ false = λ k p. rw (name_set s l at i h e k) at (n k (rw (length-set l i at) p)) in
        kept_none name (rw e at (m i h)) m;
  }
    where
      entry : (k : ℕ) → k < length l → Beside i k → Entry s (bs ++ (binder_in s at ∷ [])) (get_or (set l i at) k 0)
      entry k p (before y) = rw (get_or-set_other l i k at 0 (λ q. omega arith)) (kept_entry k p (rw (← e) (above_differs _ _ (env.sorted.ascend k i y h))))
      entry k p (here y) = rw (y, get_or-set_same l i at 0 h) own_entry
      entry k p (behind m y z) = rw (get_or-set_other l i k at 0 (λ q. omega arith)) (kept_entry k p (rw (← e) (below_differs _ _ (env.sorted.ascend i k (omega arith) p))))

  module _ (i : ℕ) (h : i ≤ length l) (low : (k : ℕ) → k < i → below (name_at s l k) (name_in s at) ≡ true) (high : (k : ℕ) → i ≤ k → k < length l → below (name_in s at) (name_at s l k) ≡ true) where
    inserted_on : Environment s (bs ++ (binder_in s at ∷ [])) (insert_at i at l)
    inserted_on = record {
      entries = λ k p. entry k (rw (insert_length i at l h) at p) (beside i k);
      sorted = insert_sorted s l at i h low high env.sorted;
      complete = λ name n.
          let own : same (name_in s at) name ≡ false = rw (name_here s l at i h low high) at (n i (rw (insert_length i at l h) (omega arith))) in
          kept_none name own (λ k p. others name n k p (ltb k i) refl);
    }
      where
        entry : (k : ℕ) → k < length l + 1 → Beside i k → Entry s (bs ++ (binder_in s at ∷ [])) (get_or (insert_at i at l) k 0)
        entry k p (before y) = rw (insert_before i at l h k y) (kept_entry k (omega arith) (apart s l at i h low high k (omega arith)))
        entry k p (here y) = rw (y, insert_here i at l h) own_entry
        entry k p (behind m y z) = rw (y, insert_behind i at l h m z) (kept_entry m (omega arith) (apart s l at i h low high m (omega arith)))

        others : (name : List ℕ) → ((k : ℕ) → k < length (insert_at i at l) → same (name_at s (insert_at i at l) k) name ≡ false) → (k : ℕ) → k < length l → (b : Bool) → ltb k i ≡ b → same (name_at s l k) name ≡ false
        others name n k p true q = rw (name_before s l at i h low high k (ltb-true k i q)) at (n k (rw (insert_length i at l h) (omega arith)))
        others name n k p false q = rw (name_behind s l at i h low high k (ltb-false k i q)) at (n (k + 1) (rw (insert_length i at l h) (omega arith)))

-- ---- the same of the table and the number of its entries

module _ (s : List ℕ) where
  pub same_table : (t : List ℕ) (n : ℕ) {new : List Binder} → MayDeclare s new t n → Declared s [] t n t n
  unfolding named_ones select
  same_table t n h = record { sorted = h.sorted; count = omega arith; size = refl; on = λ bs env. rw (append-nil bs) env }

  pub declared_more : {xs ys : List Binder} {t u v : List ℕ} {a b c : ℕ} → Declared s xs t a u b → Declared s ys u b v c → Declared s (xs ++ ys) t a v c
  declared_more {xs} {ys} p q = record {
    sorted = q.sorted;
    count = omega (arith, named_append xs ys, p.count, q.count);
    size = q.size ∙ p.size;
    on = λ bs env. rw (← append_assoc bs xs ys) (q.on (bs ++ xs) (p.on bs env));
  }

  module _ (at : ℕ) (acc : is_binder s at ≡ true) (old : List ℕ) (n : ℕ) (may : MayDeclare s (binder_in s at ∷ []) old n) where
    pub unnamed_table : (b : Bool) → b ≡ has_name (binder_in s at).slot → b ≡ false → Declared s (binder_in s at ∷ []) old n old n
    unnamed_table b e h = record { sorted = may.sorted; count = omega arith; size = refl; on = λ bs env. unnamed_on s bs (take n old) env at (sym e ∙ h) }

    short : length (take n old) ≡ n
    short = length-take-le n old (omega (arith, may.room))

    module _ (has : has_name (binder_in s at).slot ≡ true) (r : Result ℕ ℕ) (o : SpotOf s (take n old) (name_in s at) r) (i : ℕ) where
      one_named : length (named_ones (binder_in s at ∷ [])) ≡ 1
      unfolding named_ones select
      one_named = rw has

      module _ (is : r ≡ Ok i) where
        here_spot : Stands s (take n old) (name_in s at) i
        unfolding SpotOf
        here_spot = rw is at o

        spot_count : i < n
        spot_count = rw short at here_spot.within

        pub spot_index : i < length old
        spot_index = omega (arith, spot_count, may.room)

        pub replaced_table : (t : List ℕ) → t ≡ set old i at → Declared s (binder_in s at ∷ []) old n t n
        replaced_table t e =
            let f : take n t ≡ set (take n old) i at = ap (take n) e ∙ take-set-lt n old i at spot_count in
            record {
              sorted = rw f (set_sorted s _ at i here_spot.within here_spot.here may.sorted);
              count = omega arith;
              size = ap length e ∙ length-set old i at;
              on = λ bs env. rw f (replaced_on s bs _ env at acc has i here_spot.within here_spot.here);
            }

      module _ (is : r ≡ Err i) where
        new_spot : Belongs s (take n old) (name_in s at) i
        unfolding SpotOf
        new_spot = rw is at o

        pub insert_index : i ≤ n
        insert_index = rw short at new_spot.within

        pub insert_room : n < length old
        insert_room = omega (arith, may.room, one_named)

        pub inserted_table : (t : List ℕ) → Inserted old n i at t → Declared s (binder_in s at ∷ []) old n t (n + 1)
        inserted_table t e = record {
          sorted = rw e.entries (insert_sorted s _ at i new_spot.within new_spot.before new_spot.missing may.sorted);
          count = omega (arith, one_named);
          size = e.size;
          on = λ bs env. rw e.entries (inserted_on s bs _ env at acc has i new_spot.within new_spot.before new_spot.missing);
        }

-- the name as the code has it
pub spot_there : (s l : List ℕ) (at : ℕ) (w : List ℕ) → w ≡ name_in s at → (r : Result ℕ ℕ) → SpotOf s l w r → SpotOf s l (name_in s at) r
spot_there s l at w e r o = rw e at o

pub named-is : (s : List ℕ) (at : ℕ) (b : Bool) → b ≡ has_name (binder_in s at).slot → b ≡ true → has_name (binder_in s at).slot ≡ true
named-is s at b e h = sym e ∙ h

pub spot_room : (s : List ℕ) (new : List Binder) (t : List ℕ) (n : ℕ) → MayDeclare s new t n → n ≤ length t
spot_room s new t n h = omega (arith, h.room)

pub ruleset spotting = (rules, prefix, place_small, spot_room, spot_there)

pub ruleset declaring_one = (rules, place_small, named-is, unnamed_table, spot_index, replaced_table, insert_index, insert_room, inserted_table)

-- ---- from no binder on

module _ (s t : List ℕ) where
  -- a record's named binders take three bytes each
  pub room_for_all : is_record s ≡ true → 10921 ≤ length t → MayDeclare s (binders (record_in s)) t 0
  room_for_all acc h = record { small = omega (arith, record_small s acc); sorted = record { ascend = λ i j k l. absurd (omega arith) }; room = omega (arith, record_bytes s acc, record_small s acc) }

  module _ (bs : List Binder) (u : List ℕ) (r : ℕ) (q : Declared s bs t 0 u r) where
    pub entries_fit : MayDeclare s bs t 0 → r ≤ length u
    entries_fit h = omega (arith, q.count, q.size, h.room)

    pub environment-is : Environment s bs (take r u)
    unfolding last_named
    environment-is = q.on [] (record { entries = λ i h. absurd (omega arith); sorted = record { ascend = λ i j k l. absurd (omega arith) }; complete = λ _ _. refl })

pub ruleset beginning = (rules, room_for_all, entries_fit, environment-is)

-- ---- the search for a name

module _ (s table name : List ℕ) (h : SomeEnvironment s table) (a : Result ℕ ℕ) (o : SpotOf s table name a) (i : ℕ) where
  module _ (is : a ≡ Ok i) where
    here_found : Stands s table name i
    unfolding SpotOf
    here_found = rw is at o

    pub found_index : i < length table
    found_index = here_found.within

    module _ (q : ℕ) (e : q ≡ get_or table i 0) where
      found : (bs : List Binder) → Environment s bs table → Entry s bs q
      found bs env = rw e (env.entries i found_index)

      stands : is_binder s q ≡ true
      stands = (found h.declared h.is).stands

      found_name : name_in s q ≡ name
      unfolding name_at
      found_name = ap (λ m. name_in s m) e ∙ here_found.here

      pub found_slot : is_slot s q ≡ true
      found_slot = binder_slot s q stands

      module _ (m : ℕ) (z : Skipped (slot s q) q m) where
        pub found_annotation : is_annotation s m ≡ true
        found_annotation = binder_annotation s q stands m z

        pub found_says : (r : Bound) → BoundBy s (some (annotation_in s m)) r → SaysOf s table name r
        found_says r y = record {
          of = λ bs env.
              let f : last_named name bs ≡ some (annotation_in s m) = ap (λ w. last_named w bs) (sym found_name) ∙ (found bs env).last ∙ ap some (annotation-is s q stands m z) in
              rw f y;
        }

  pub none_says : a ≡ Err i → SaysOf s table name Nothing
  unfolding SpotOf
  none_says is = record { of = λ bs env. rw (env.complete name (λ k l. differ (rw is at o) k l (ltb k i) refl)) (says_nothing s) }
    where
      differ : Belongs s table name i → (k : ℕ) → k < length table → (b : Bool) → ltb k i ≡ b → same (name_at s table k) name ≡ false
      differ new k l true e = below_differs _ _ (new.before k (ltb-true k i e))
      differ new k l false e = above_differs _ _ (new.missing k (ltb-false k i e) l)

pub some_sorted : (s table : List ℕ) → SomeEnvironment s table → Sorted s table
some_sorted s table h = h.is.sorted

pub ruleset finding = (rules, some_sorted, found_index, found_slot, found_annotation, found_says, none_says)

-- the same of binders that are known
module _ (s : List ℕ) (bs : List Binder) (table : List ℕ) (env : Environment s bs table) where
  pub some_environment : SomeEnvironment s table
  some_environment = record { declared = bs; is = env }

  pub environment_says : (name : List ℕ) (r : Bound) → SaysOf s table name r → BoundBy s (last_named name bs) r
  environment_says name r y = y.of bs env

pub ruleset asking = (rules, some_environment, environment_says)
