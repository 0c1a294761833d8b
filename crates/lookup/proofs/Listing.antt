-- Loops over strings that are found one after the other: those that are left are the first and the others. Assumes nothing.
use mathlib.Core.Path.{◌≡◌, refl, sym, ap, ◌∙◌}
use mathlib.Core.Bool.{Bool, true, false, cond}
use mathlib.Core.List.{List, [], ◌∷◌, ◌++◌, append_assoc, append-nil}
use Prim.Native.Nat.{ℕ, zero, suc, ◌+◌, ◌*◌, ◌≤◌, ◌<◌}
use native.Mathlib.Omega.{arith}
use native.Mathlib.Numerals.{sub-one}
use borrow.Author.Rules.{rules}
use borrow.Author.Tests.{leb-true}
use lib.Dec.{leb}
use lib.ListN.{length, length-append}
use Rattle.names.specs.Lists.{gather, select}
use Rattle.names.specs.Fields.{Reader, got, bad, string_of, whole}
use Rattle.names.specs.Names.{path_name}
use Rattle.names.specs.Read.{word_at, row}
use Rattle.names.specs.Writer.{Stored}
use Rattle.names.specs.Laws.Writers.{stored_none, stored_more, stored_length}
use Rattle.names.specs.Laws.Readers.{accept, string_view}
use Rattle.names.specs.Laws.Rows.{opens, listed_length}
use Rattle.schema.specs.Places.{is_schema}
use Rattle.schema.specs.Schema.{schema_record}
use Rattle.names.specs.declared.Row.{Row}
use Rattle.resolution.specs.Paths.{path_of}
use Rattle.resolution.specs.Scopes.{schema_of, narrowing_of, types_of}
use Rattle.resolution.specs.Places.{are_types, types_in, Follows, NextOf}
use Rattle.resolution.specs.Passes.{failing}
use Rattle.lookup.specs.Lookup.{sized}
use Rattle.lookup.specs.Places.{entities_of, Long, Room, Measures}
use Rattle.lookup.specs.declared.question.Question.{Question}
use Rattle.lookup.specs.declared.Measured.{Measured}
use Rattle.lookup.proofs.Parts.{length_sized}
use Rattle.names.specs.declared.refusal.Refusal.TheVariants.{TooLong}
use Rattle.resolution.specs.Coded.{Next}
use Rattle.std.specs.Prelude.{Some, None}

-- ---- how many names a row can have

whole_short : {A : Type 0} (f : Reader A) (s : List ℕ) {a : A} {n : ℕ} → whole f s ≡ got a n → length s ≤ 32768
unfolding whole
whole_short f s {a} {n} e = go (leb (length s) 32768) refl e
  where
    go : (b : Bool) → leb (length s) 32768 ≡ b → cond b (f s 0) (bad TooLong) ≡ got a n → length s ≤ 32768
    go true h i = leb-true (length s) 32768 h
    go false h i = let z : ◌≡◌ {A = ℕ} 0 1 = cc in absurd (omega arith)

-- each string of a row takes a byte at least
row_inside : (class : List ℕ → Bool) (s : List ℕ) (n at : ℕ) {list : List (List ℕ)} {end : ℕ} → row (string_of class) n s at ≡ got list end → at ≤ length s → at + n ≤ length s
row_inside class s zero at e h = omega arith
row_inside class s (suc n) at e h =
    let o = opens (string_of class) s (suc n) at (omega arith) e in
    let v = string_view class s at o.here in
    let r = row_inside class s n o.p (rw sub-one at o.rest) v.inside in
    omega (arith, v.place)

row_few : (class : List ℕ → Bool) (s : List ℕ) (n at : ℕ) {list : List (List ℕ)} {end : ℕ} → row (string_of class) n s at ≡ got list end → n ≤ length s
row_few class s zero at e = omega arith
row_few class s (suc n) at e =
    let o = opens (string_of class) s (suc n) at (omega arith) e in
    let v = string_view class s at o.here in
    let r = row_inside class s n o.p (rw sub-one at o.rest) v.inside in
    omega (arith, v.place)

pub types_few : (s : List ℕ) (r : Row) → is_schema s ≡ true → are_types s r ≡ true → length (types_in s r) ≤ 32768
types_few s r is are =
    let a = accept _ is in
    let t = accept _ are in
    omega (arith, whole_short schema_record s a.read, row_few path_name s r.count r.at t.read, listed_length (string_of path_name) s (types_in s r) r.count r.at (record { stands = are; value = refl }))

pub length_select : {A : Type 0} (p : A → Bool) (xs : List A) → length (select p xs) ≤ length xs
unfolding select
length_select p [] = omega arith
length_select p (x ∷ xs) = go (p x) (length_select p xs)
  where
    go : (b : Bool) → length (select p xs) ≤ length xs → length (cond b (x ∷ select p xs) (select p xs)) ≤ suc (length xs)
    go true h = omega arith
    go false h = omega arith

-- ---- a loop that measures, and one that writes

module _ (ws : List (List ℕ)) where
  -- what is left, beside what was measured
  pub record Counting (rest : List (List ℕ)) (m : Measured) : Type 0 where
    pub count : m.count + length rest ≡ length ws
    pub size : m.size + length (gather sized rest) ≡ length (gather sized ws)
    pub bound : m.size ≤ 1002 * m.count

  pub count_none : (m : Measured) → m ≡ record { count = 0; size = 0 } → Counting ws m
  count_none m e = rw e (record { count = omega arith; size = omega arith; bound = omega arith })

  pub count_one : (w : List ℕ) (others : List (List ℕ)) → ws ≡ w ∷ others → (long : ℕ) → Long w long → (m : Measured) → m ≡ record { count = 1; size = 2 + long } → Counting others m
  unfolding gather
  count_one w others is long l m e =
      rw (e, is)
      (record {
        count = omega arith;
        size = omega (arith, length-append (sized w) (gather sized others), length_sized w, l.is);
        bound = omega (arith, l.brief);
      })

  module _ (few : length ws < 65536) (rest : List (List ℕ)) (m : Measured) (inv : Counting rest m) where
    pub count_over : rest ≡ [] → Measures ws m
    unfolding gather
    count_over e =
        let h : m.count + 0 ≡ length ws = rw e at inv.count in
        let k : m.size + 0 ≡ length (gather sized ws) = rw e at inv.size in
        record { count = omega arith; size = omega arith; few = omega arith; short = omega (arith, inv.bound) }

    module _ (w : List ℕ) (others : List (List ℕ)) (first : rest ≡ w ∷ others) where
      counted : m.count + suc (length others) ≡ length ws
      counted = rw first at inv.count

      measured : m.size + ((2 + length w) + length (gather sized others)) ≡ length (gather sized ws)
      unfolding gather
      measured =
          let h : m.size + length (sized w ++ gather sized others) ≡ length (gather sized ws) = rw first at inv.size in
          omega (arith, length-append (sized w) (gather sized others), length_sized w)

      pub count_room : (long : ℕ) → Long w long → Room m long
      count_room long l = record { few = omega (arith, counted); short = omega (arith, inv.bound, counted); brief = l.brief }

      pub count_more : (long : ℕ) → Long w long → (r : Measured) → r ≡ record { count = m.count + 1; size = m.size + (2 + long) } → Counting others r
      count_more long l r e =
          rw e
          (record {
            count = omega (arith, counted);
            size = omega (arith, measured, l.is);
            bound = omega (arith, inv.bound, l.brief);
          })

module _ (s : List ℕ) (at : ℕ) (ws : List (List ℕ)) where
  -- what is left, behind what was written
  pub record Putting (rest : List (List ℕ)) (t : List ℕ) (place : ℕ) : Type 0 where
    pub text : List ℕ
    pub stored : Stored s at text t place
    pub joins : text ++ gather sized rest ≡ gather sized ws

  pub put_none : at ≤ length s → Putting ws s at
  put_none h = record { text = []; stored = stored_none s at (omega arith); joins = refl }

  module _ (rest : List (List ℕ)) (t : List ℕ) (place : ℕ) (inv : Putting rest t place) where
    pub put_over : rest ≡ [] → Stored s at (gather sized ws) t place
    unfolding gather
    put_over e =
        let h : inv.text ++ [] ≡ gather sized ws = rw e at inv.joins in
        let k : inv.text ≡ gather sized ws = sym (append-nil inv.text) ∙ h in
        rw k at inv.stored

    module _ (w : List ℕ) (others : List (List ℕ)) (first : rest ≡ w ∷ others) where
      joined : (inv.text ++ sized w) ++ gather sized others ≡ gather sized ws
      unfolding gather
      joined = append_assoc inv.text (sized w) (gather sized others) ∙ rw first at inv.joins

      pub put_room : at + length (gather sized ws) ≤ length s → place + length (sized w) ≤ length t
      put_room room =
          omega (arith, ap length joined, length-append (inv.text ++ sized w) (gather sized others), length-append inv.text (sized w), inv.stored.next, stored_length inv.stored)

      pub put_more : (u : List ℕ) (r : ℕ) → Stored t place (sized w) u r → Putting others u r
      put_more u r next = record { text = inv.text ++ sized w; stored = stored_more inv.stored next; joins = joined }

-- ---- the strings of `Missing`

module _ (q : Question) (segment : ℕ) where
  -- the bytes of its schema and of its path
  abbrev pub s : List ℕ
  s = q.candidates.scope.schema.bytes.now

  abbrev pub c : List ℕ
  c = q.path.bytes.now

  abbrev pub missing_words : List (List ℕ)
  missing_words = word_at c segment ∷ entities_of q segment

  abbrev pub fails : List ℕ → Bool
  fails = failing (schema_of q.candidates.scope) (narrowing_of q.candidates.scope) (path_of q.path) (word_at c segment)

  -- what is left of the row
  abbrev pub failed : Row → List (List ℕ)
  failed left = select fails (types_in s left)

  pub record CountingMissing (left : Row) (m : Measured) : Type 0 where
    pub stands : are_types s left ≡ true
    pub on : Counting missing_words (failed left) m

  pub record PuttingMissing (t : List ℕ) (at : ℕ) (left : Row) (u : List ℕ) (place : ℕ) : Type 0 where
    pub stands : are_types s left ≡ true
    pub on : Putting t at (failed q.candidates.types) (failed left) u place
    pub same : length u ≡ length t

  module _ (left : Row) (x : Next) (next : NextOf s fails left x) where
    none_left : x ≡ None → failed left ≡ []
    none_left e = let h : [] ≡ failed left = rw e at next.value in sym h

    module _ (p : ℕ) (others : Row) (e : x ≡ Some (p, others)) where
      one_left : failed left ≡ word_at s p ∷ failed others
      one_left = let h : word_at s p ∷ failed others ≡ failed left = rw e at next.value in sym h

      left_follows : Follows s left p others
      left_follows = rw e at next.follows

      pub missing_fewer : others.count < left.count
      missing_fewer = left_follows.fewer

  missing_few : length missing_words < 65536
  missing_few = omega (arith, length_select fails (types_of q.candidates), types_few s q.candidates.types q.candidates.scope.schema.accepted q.candidates.stand)

  -- the first string is the segment
  pub first_counted : (long : ℕ) → Long (word_at c segment) long → (m : Measured) → m ≡ record { count = 1; size = 2 + long } → CountingMissing q.candidates.types m
  first_counted long l m e = record { stands = q.candidates.stand; on = count_one missing_words (word_at c segment) (entities_of q segment) refl long l m e }

  module _ (left : Row) (m : Measured) (inv : CountingMissing left m) (x : Next) (next : NextOf s fails left x) where
    pub missing_over : x ≡ None → Measures missing_words m
    missing_over e = count_over missing_words missing_few (failed left) m inv.on (none_left left x next e)

    module _ (p : ℕ) (others : Row) (e : x ≡ Some (p, others)) (long : ℕ) (l : Long (word_at s p) long) where
      pub missing_room : Room m long
      missing_room = count_room missing_words missing_few (failed left) m inv.on (word_at s p) (failed others) (one_left left x next p others e) long l

      pub missing_more : (r : Measured) → r ≡ record { count = m.count + 1; size = m.size + (2 + long) } → CountingMissing others r
      missing_more r i = record {
        stands = (left_follows left x next p others e).stands;
        on = count_more missing_words missing_few (failed left) m inv.on (word_at s p) (failed others) (one_left left x next p others e) long l r i;
      }

  -- the entity types, written
  module _ (t : List ℕ) (at : ℕ) (room : at + length (gather sized (entities_of q segment)) ≤ length t) where
    pub entities_start : PuttingMissing t at q.candidates.types t at
    entities_start = record { stands = q.candidates.stand; on = put_none t at (failed q.candidates.types) (omega arith); same = refl }

    module _ (left : Row) (u : List ℕ) (place : ℕ) (inv : PuttingMissing t at left u place) (x : Next) (next : NextOf s fails left x) where
      pub entities_over : x ≡ None → Stored t at (gather sized (entities_of q segment)) u place
      entities_over e = put_over t at (failed q.candidates.types) (failed left) u place inv.on (none_left left x next e)

      module _ (p : ℕ) (others : Row) (e : x ≡ Some (p, others)) where
        pub entity_room : place + length (sized (word_at s p)) ≤ length u
        entity_room = put_room t at (failed q.candidates.types) (failed left) u place inv.on (word_at s p) (failed others) (one_left left x next p others e) room

        pub entity_put : (v : List ℕ) (r : ℕ) → Stored u place (sized (word_at s p)) v r → PuttingMissing t at others v r
        entity_put v r i = record {
          stands = (left_follows left x next p others e).stands;
          on = put_more t at (failed q.candidates.types) (failed left) u place inv.on (word_at s p) (failed others) (one_left left x next p others e) v r i;
          same = stored_length i ∙ inv.same;
        }

-- a first string, and then the others
module _ (t : List ℕ) (at : ℕ) (w : List ℕ) (others : List (List ℕ)) (room : at + length (gather sized (w ∷ others)) ≤ length t) where
  both : length (gather sized (w ∷ others)) ≡ length (sized w) + length (gather sized others)
  unfolding gather
  both = length-append (sized w) (gather sized others)

  pub head_room : at + length (sized w) ≤ length t
  head_room = omega (arith, both)

  module _ (u : List ℕ) (place : ℕ) (i : Stored t at (sized w) u place) where
    pub tail_room : place + length (gather sized others) ≤ length u
    tail_room = omega (arith, both, i.next, stored_length i)

    pub head_tail : (v : List ℕ) (r : ℕ) → Stored u place (gather sized others) v r → Stored t at (gather sized (w ∷ others)) v r
    unfolding gather
    head_tail v r j = stored_more i j

pub ruleset counts_missing = (rules, first_counted, missing_over, missing_room, missing_more, missing_fewer)

pub ruleset puts_entities = (rules, entities_start, entities_over, entity_room, entity_put, missing_fewer)

pub ruleset puts_missing = (rules, head_room, tail_room, head_tail)
