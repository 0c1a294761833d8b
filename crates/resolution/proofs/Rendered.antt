-- The pass that finds the type whose text is the next, and what it lists. Assumes nothing.
use mathlib.Core.Path.{◌≡◌, refl, sym, ap, ◌∙◌}
use mathlib.Core.Bool.{Bool, true, false}
use mathlib.Core.List.{List, [], ◌∷◌}
use mathlib.Core.Option.{Option, none, some}
use Prim.Native.Nat.{ℕ, ◌+◌, ◌≤◌, ◌<◌}
use native.Mathlib.Omega.{arith}
use lib.ListN.{length, take}
use borrow.Author.Rules.{rules}
use Rattle.names.specs.Lists.{select}
use Rattle.names.specs.Names.{below}
use Rattle.names.specs.Read.{word_at, Found}
use Rattle.names.specs.Writer.{Stored}
use Rattle.names.specs.Laws.Writers.{stored_text}
use Rattle.types.specs.Types.{Ty, render}
use Rattle.types.specs.Laws.Texts.{Small, text_bound}
use Rattle.types.specs.Meaning.{rich_of}
use Rattle.types.specs.declared.Rich.{Rich}
use Rattle.types.specs.declared.Form.TheVariants as Form
use Rattle.schema.specs.Schema.{Schema}
use Rattle.schema.specs.Find.{find_entity}
use Rattle.schema.specs.Places.{schema_in, is_entity, entity_in, FindsEntity}
use Rattle.names.specs.declared.Row.{Row}
use Rattle.targets.specs.Targets.{Narrowing}
use Rattle.resolution.specs.Resolution.{typed, on_entity, admitted_by, renderings}
use Rattle.resolution.specs.Places.{segments_in, are_types, types_in, Follows, NextPlaced, end_of, typed_of, small_end, small_type}
use Rattle.resolution.specs.Passes.{rendered, above, under, closest, type_on, types_on, renderings_on, next_rendered, end_type}
use Rattle.resolution.specs.declared.Failure.{Failure}
use Rattle.resolution.specs.Coded.{PathEnd}
use Rattle.resolution.specs.Laws.Segments.{unsplit}
use Rattle.resolution.proofs.Texts.{picked, picked_next}
use Rattle.std.specs.Prelude.{Some, None, Ok, Err}
use Rattle.resolution.specs.Paths.{Splits}
use Rattle.resolution.specs.declared.path.Headed.{Headed}
use Rattle.std.specs.Prelude as code
use Rattle.std.specs.Result.{result_ok}
use Rattle.resolution.specs.Coded.{Typed, NextNear}

-- Two texts, each in a scratch of 512 bytes.
pub text_room : (t : Ty) → Small t → 0 + length (render t) ≤ 512
text_room t h = omega (arith, text_bound Form.Render t h)

module _ (a a' b b' : List ℕ) (t u : Ty) (n m : ℕ) (left : Stored a 0 (render t) a' n) (right : Stored b 0 (render u) b' m) where
  pub texts_below : (r : Bool) → r ≡ below (take n a') (take m b') → r ≡ below (render t) (render u)
  texts_below r is = rw (← stored_text left, ← stored_text right) is

-- a part that holds the text has its length
pub text_counted : (a a' : List ℕ) (t : Ty) (n : ℕ) → Stored a 0 (render t) a' n → length (take n a') ≡ n
text_counted a a' t n st = rw (stored_text st) (omega (arith, st.next))

-- The tests on what may be a type.
module _ (s c : List ℕ) (x : Typed) where
  pub as_small : (u : Rich) → x ≡ Some u → small_type (typed_of s c x) → Small (rich_of s c u)
  as_small u e h = rw e at h

  module _ (t : Rich) where
    pub above_one : (u : Rich) → x ≡ Some u → (r : Bool) → r ≡ below (render (rich_of s c u)) (render (rich_of s c t)) → r ≡ above (rendered (typed_of s c x)) (render (rich_of s c t))
    above_one u e r is = rw e is

    pub above_none : x ≡ None → true ≡ above (rendered (typed_of s c x)) (render (rich_of s c t))
    above_none e = rw e

    pub under_one : (u : Rich) → x ≡ Some u → (r : Bool) → r ≡ below (render (rich_of s c t)) (render (rich_of s c u)) → r ≡ under (rendered (typed_of s c x)) (render (rich_of s c t))
    under_one u e r is = rw e is

    pub under_none : x ≡ None → true ≡ under (rendered (typed_of s c x)) (render (rich_of s c t))
    under_none e = rw e

pub ruleset comparing = (rules, text_room, text_counted, texts_below, as_small, above_one, above_none, under_one, under_none)

-- The closer of two.
module _ (s c : List ℕ) (last best other : Typed) where
  abbrev Closest : Typed → Type 0
  Closest r = typed_of s c r ≡ closest (rendered (typed_of s c last)) (typed_of s c best) (typed_of s c other)

  pub closer_none : other ≡ None → Closest best
  unfolding closest
  closer_none e = rw e

  module _ (t : Rich) (e : other ≡ Some t) where
    pub closer_small : small_type (typed_of s c other) → Small (rich_of s c t)
    closer_small h = rw e at h

    module _ (a : Bool) (is_a : a ≡ above (rendered (typed_of s c last)) (render (rich_of s c t))) where
      pub closer_not : a ≡ false → Closest best
      unfolding closest
      closer_not h = rw (e, ← is_a, h)

      module _ (h : a ≡ true) (b : Bool) (is_b : b ≡ under (rendered (typed_of s c best)) (render (rich_of s c t))) where
        pub closer_yes : b ≡ true → Closest (Some t)
        unfolding closest
        closer_yes k = rw (e, ← is_a, h, ← is_b, k)

        pub closer_behind : b ≡ false → Closest best
        unfolding closest
        closer_behind k = rw (e, ← is_a, h, ← is_b, k)

pub ruleset closing = (rules, closer_none, closer_small, closer_not, closer_yes, closer_behind)

-- The type on one entity type.
end_ok : (e : PathEnd) → result_ok e ≡ end_type e
end_ok (Ok t) = refl
end_ok (Err (Failure.Missing p)) = refl
end_ok (Err (Failure.NonRecord p)) = refl

module _ (s c : List ℕ) where
  end_typed : (e : PathEnd) → typed_of s c (end_type e) ≡ typed (end_of s c e)
  unfolding typed
  end_typed (Ok t) = refl
  end_typed (Err (Failure.Missing p)) = refl
  end_typed (Err (Failure.NonRecord p)) = refl

  end_small : (e : PathEnd) → small_end (end_of s c e) → small_type (typed_of s c (end_type e))
  end_small (Ok t) h = h
  end_small (Err (Failure.Missing p)) h = h
  end_small (Err (Failure.NonRecord p)) h = h

  pub type-small-end : (e : PathEnd) → small_end (end_of s c e) → (r : Typed) → r ≡ result_ok e → small_type (typed_of s c r)
  type-small-end e h r i = rw (i ∙ end_ok e) (end_small e h)

  module _ (p head : ℕ) (rest : Row) (w : List ℕ) (is_w : w ≡ word_at s p) (x : Found) (finds : FindsEntity s (find_entity (schema_in s) w) x) where
    pub type_undeclared : x ≡ None → typed_of s c None ≡ type_on (schema_in s) (word_at c head ∷ segments_in c rest) (word_at s p)
    unfolding type_on
    type_undeclared g =
        let i : find_entity (schema_in s) (word_at s p) ≡ none = rw (← is_w) (sym finds.value ∙ rw g) in
        rw i

    pub type_declared : (at : ℕ) → x ≡ Some at → is_entity s at ≡ true
    type_declared at g = rw g at finds.stands

    pub type_by : (at : ℕ) → x ≡ Some at → (e : PathEnd) → end_of s c e ≡ on_entity (word_at c head) (segments_in c rest) (entity_in s at) → (r : Typed) → r ≡ result_ok e → typed_of s c r ≡ type_on (schema_in s) (word_at c head ∷ segments_in c rest) (word_at s p)
    unfolding type_on
    type_by at g e is r j =
        let i : find_entity (schema_in s) (word_at s p) ≡ some (entity_in s at) = rw (← is_w) (sym finds.value ∙ rw g) in
        rw (i, ← is, j ∙ end_ok e) (end_typed e)

pub ruleset typing = (rules, type-small-end, type_undeclared, type_declared, type_by)

-- The pass.
module _ (s c : List ℕ) (S : Schema) (N : Option Narrowing) (path : List (List ℕ)) (last : Option (List ℕ)) (o : Option Ty) where
  pub record Picking (row : Row) (best : Typed) : Type 0 where
    pub stands : are_types s row ≡ true
    pub same : picked S path last (typed_of s c best) (select (admitted_by S N) (types_in s row)) ≡ o
    pub small : small_type (typed_of s c best)

  pub pick_small : (row : Row) (best : Typed) → Picking row best → small_type (typed_of s c best)
  pick_small row best l = l.small

  module _ (row : Row) (best : Typed) (l : Picking row best) (x : NextNear) (next : NextPlaced s (admitted_by S N) row x) where
    pub pick_over : x ≡ None → typed_of s c best ≡ o
    unfolding picked
    pick_over e = rw (← (rw e at next.next.value)) at l.same

    module _ (p : ℕ) (others near : Row) (e : x ≡ Some (p, others, near)) where
      pub pick_fewer : others.count < row.count
      pick_fewer = let f : Follows s row p others = rw e at next.next.follows in f.fewer

      pub pick_on : (t : Typed) → typed_of s c t ≡ type_on S path (word_at s p) → (b : Typed) → typed_of s c b ≡ closest last (typed_of s c best) (typed_of s c t) → small_type (typed_of s c b) → Picking others b
      unfolding picked
      pick_on t is b joins fits =
          let f : Follows s row p others = rw e at next.next.follows in
          record {
            stands = f.stands;
            same =
                ap (λ (d : Option Ty). picked S path last d (select (admitted_by S N) (types_in s others))) (joins ∙ ap (closest last (typed_of s c best)) is)
                ∙ ap (picked S path last (typed_of s c best)) (rw e at next.next.value)
                ∙ l.same;
            small = fits;
          }

pub pick_start : (s c : List ℕ) (S : Schema) (N : Option Narrowing) (path : List (List ℕ)) (last : Option (List ℕ)) (row : Row) → are_types s row ≡ true → Picking s c S N path last (picked S path last none (select (admitted_by S N) (types_in s row))) row None
pick_start s c S N path last row are = record { stands = are; same = refl; small = omega arith }

pub pick_next : (s c : List ℕ) (S : Schema) (N : Option Narrowing) (path : List (List ℕ)) (last : Option (List ℕ)) (row : Row) (best : Typed) → typed_of s c best ≡ picked S path last none (select (admitted_by S N) (types_in s row)) → next_rendered (renderings_on S N (types_in s row) path) (typed_of s c best) ≡ select (above last) (renderings_on S N (types_in s row) path)
pick_next s c S N path last row best is = rw is (picked_next S path last (select (admitted_by S N) (types_in s row)))

pub ruleset picking = (rules, pick_start, pick_small, pick_next, pick_over, pick_fewer, pick_on)

-- A path without segments has no types.
module _ (s c : List ℕ) (S : Schema) (N : Option Narrowing) (names : List (List ℕ)) (last : Option (List ℕ)) (path : Row) where
  no_types : (ns : List (List ℕ)) → types_on S [] ns ≡ []
  unfolding types_on type_on
  no_types [] = refl
  no_types (n ∷ ns) = no_types ns

  pub picking_empty : (x : code.Option Headed) → Splits c path x → x ≡ None → next_rendered (renderings_on S N names (segments_in c path)) (typed_of s c None) ≡ select (above last) (renderings_on S N names (segments_in c path))
  unfolding renderings select
  picking_empty x splits e = rw (unsplit c path x splits e, no_types (select (admitted_by S N) names))

pub ruleset picking_path = (rules, picking_empty)
