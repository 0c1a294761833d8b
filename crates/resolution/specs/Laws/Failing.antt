-- The pass over the entity types on which a path fails, and what it lists. Assumes nothing.
use Rattle.std.specs.Prelude.{◌≡◌, Bool, ◌&&◌, ℕ, ◌≤◌, ◌<◌, Some, None, Ok, Err}
use Rattle.std.proofs.Math.Path.{refl}
use Rattle.std.proofs.Common.{sym, ap, ◌∙◌, rules}
use Rattle.std.proofs.Math.Bool.{true, false, cond}
use mathlib.Core.List.{List, [], ◌∷◌}
use Rattle.std.proofs.Math.Option.{Option, none, some}
use native.Mathlib.Omega.{arith}
use Rattle.names.specs.Lists.{select}
use Rattle.names.specs.Names.{same}
use Rattle.names.specs.Read.{word_at, Found}
use Rattle.types.specs.declared.Rich.{Rich}
use Rattle.schema.specs.Schema.{Schema}
use Rattle.schema.specs.Find.{find_entity}
use Rattle.schema.specs.Places.{schema_in, is_entity, entity_in, FindsEntity}
use Rattle.names.specs.declared.Row.{Row}
use Rattle.targets.specs.Targets.{Narrowing}
use Rattle.resolution.specs.Resolution.{missing_at, on_entity, admitted_by}
use Rattle.resolution.specs.Places.{are_segments, segments_in, Behind, are_types, types_in, next_in, Follows, NextOf, next_of, NextPlaced, end_of}
use Rattle.resolution.specs.Passes.{fails_at, failing}
use Rattle.resolution.specs.declared.Failure.{Failure}
use Rattle.resolution.specs.Coded.{PathEnd}
use Rattle.resolution.specs.Laws.Segments.{no_segments, unsplit}
use Rattle.resolution.specs.Paths.{Splits}
use Rattle.resolution.specs.declared.path.Headed.{Headed}
use Rattle.std.specs.Prelude as code
use Rattle.resolution.specs.Coded.{NextNear, Next}

-- the test on one end
module _ (c : List ℕ) (p : ℕ) (e : PathEnd) where
  pub missing_not_resolved : (t : Rich) → e ≡ Ok t → (s : List ℕ) → false ≡ missing_at (word_at c p) (end_of s c e)
  unfolding missing_at
  missing_not_resolved t i s = rw i

  pub missing_not_plain : (q : ℕ) → e ≡ Err (Failure.NonRecord q) → (s : List ℕ) → false ≡ missing_at (word_at c p) (end_of s c e)
  unfolding missing_at
  missing_not_plain q i s = rw i

  pub missing_same : (q : ℕ) → e ≡ Err (Failure.Missing q) → (v : List ℕ) → v ≡ word_at c p → (w : List ℕ) → w ≡ word_at c q → (r : Bool) → r ≡ same v w → (s : List ℕ) → r ≡ missing_at (word_at c p) (end_of s c e)
  unfolding missing_at
  missing_same q i v is_v w is_w r is s = rw (i, ← is_v, ← is_w) is

-- the test on one entity type
module _ (s c : List ℕ) (p q head : ℕ) (rest : Row) (w : List ℕ) (is_w : w ≡ word_at s p) (x : Found) (finds : FindsEntity s (find_entity (schema_in s) w) x) where
  pub fails_undeclared : x ≡ None → false ≡ fails_at (schema_in s) (word_at c head ∷ segments_in c rest) (word_at c q) (word_at s p)
  unfolding fails_at
  fails_undeclared g =
      let i : find_entity (schema_in s) (word_at s p) ≡ none = rw (← is_w) (sym finds.value ∙ rw g) in
      rw i

  pub fails_declared : (at : ℕ) → x ≡ Some at → is_entity s at ≡ true
  fails_declared at g = rw g at finds.stands

  pub fails_by : (at : ℕ) → x ≡ Some at → (e : PathEnd) → end_of s c e ≡ on_entity (word_at c head) (segments_in c rest) (entity_in s at) → (r : Bool) → ((d : List ℕ) → r ≡ missing_at (word_at c q) (end_of d c e)) → r ≡ fails_at (schema_in s) (word_at c head ∷ segments_in c rest) (word_at c q) (word_at s p)
  unfolding fails_at
  fails_by at g e is r m =
      let i : find_entity (schema_in s) (word_at s p) ≡ some (entity_in s at) = rw (← is_w) (sym finds.value ∙ rw g) in
      rw (i, ← is) (m s)

pub ruleset failures = (rules, missing_not_resolved, missing_not_plain, missing_same, fails_undeclared, fails_declared, fails_by)

-- those of the ones that pass a test that pass another
pub select_both : {A : Type 0} (p q r : A → Bool) → ((a : A) → r a ≡ (p a && q a)) → (xs : List A) → select r xs ≡ select q (select p xs)
unfolding select
select_both p q r both [] = refl
select_both p q r both (x ∷ xs) = rw (both x, select_both p q r both xs) (go (p x))
  where
    go : (b : Bool) → cond (b && q x) (x ∷ select q (select p xs)) (select q (select p xs)) ≡ select q (cond b (x ∷ select p xs) (select p xs))
    go true = refl
    go false = refl

-- the pass
module _ (S : Schema) (N : Option Narrowing) (path : List (List ℕ)) (w : List ℕ) where
  pub both : (names : List (List ℕ)) → select (failing S N path w) names ≡ select (fails_at S path w) (select (admitted_by S N) names)
  unfolding failing
  both names = select_both (admitted_by S N) (fails_at S path w) (failing S N path w) (λ a. refl) names

  module _ (s : List ℕ) (row : Row) where
    pub record Failing (left : Row) : Type 0 where
      pub stands : are_types s left ≡ true
      pub fewer : left.count ≤ row.count
      pub same : select (failing S N path w) (types_in s left) ≡ select (failing S N path w) (types_in s row)

    pub fail_start : are_types s row ≡ true → Failing row
    fail_start are = record { stands = are; fewer = omega arith; same = refl }

    module _ (left : Row) (l : Failing left) (x : NextNear) (next : NextPlaced s (admitted_by S N) left x) where
      here : select (fails_at S path w) (next_in s (admitted_by S N) (next_of x)) ≡ select (failing S N path w) (types_in s row)
      here = ap (select (fails_at S path w)) next.next.value ∙ sym (both (types_in s left)) ∙ l.same

      pub fail_over : x ≡ None → NextOf s (failing S N path w) row None
      unfolding select
      fail_over e = record { value = rw e at here; follows = omega arith }

      module _ (p : ℕ) (others near : Row) (e : x ≡ Some (p, others, near)) where
        follows : Follows s left p others
        follows = rw e at next.next.follows

        pub fail_fewer : others.count < left.count
        fail_fewer = follows.fewer

        at_name : cond (fails_at S path w (word_at s p)) (word_at s p ∷ select (failing S N path w) (types_in s others)) (select (failing S N path w) (types_in s others)) ≡ select (failing S N path w) (types_in s row)
        unfolding select
        at_name = rw (both (types_in s others)) (rw e at here)

        module _ (b : Bool) (is_b : b ≡ fails_at S path w (word_at s p)) where
          pub fail_found : b ≡ true → NextOf s (failing S N path w) row (Some (p, others))
          fail_found g =
              let i : fails_at S path w (word_at s p) ≡ true = sym is_b ∙ g in
              let f = l.fewer in
              let h = follows.fewer in
              record { value = rw i at at_name; follows = record { inside = follows.inside; stands = follows.stands; fewer = omega arith } }

          pub fail_on : b ≡ false → Failing others
          fail_on g =
              let i : fails_at S path w (word_at s p) ≡ false = sym is_b ∙ g in
              let f = l.fewer in
              let h = follows.fewer in
              record { stands = follows.stands; fewer = omega arith; same = rw i at at_name }

pub ruleset failing_pass = (rules, fail_start, fail_over, fail_fewer, fail_found, fail_on)

-- no path without segments fails
module _ (S : Schema) (N : Option Narrowing) (w : List ℕ) where
  none_fails : (names : List (List ℕ)) → [] ≡ select (failing S N [] w) names
  unfolding failing fails_at select
  none_fails [] = refl
  none_fails (n ∷ names) = go (admitted_by S N n) (none_fails names)
    where
      go : (b : Bool) → [] ≡ select (failing S N [] w) names → [] ≡ cond (b && false) (n ∷ select (failing S N [] w) names) (select (failing S N [] w) names)
      go true rest = rest
      go false rest = rest

-- The whole path.
module _ (s c : List ℕ) (S : Schema) (N : Option Narrowing) (w : List ℕ) (row path : Row) (are : are_segments c path ≡ true) where
  pub failing_empty : path.count ≡ 0 → NextOf s (failing S N (segments_in c path) w) row None
  failing_empty e = record { value = rw (← no_segments c path are (omega arith)) (none_fails S N w (types_in s row)); follows = omega arith }

  pub failing_whole : (rest : Row) → Behind c path rest → (x : Next) → NextOf s (failing S N (word_at c path.at ∷ segments_in c rest) w) row x → NextOf s (failing S N (segments_in c path) w) row x
  failing_whole rest b x next = rw b.value at next

-- a path without segments, where one is split
pub failing_unsplit : (s c : List ℕ) (S : Schema) (N : Option Narrowing) (w : List ℕ) (row path : Row) (x : code.Option Headed) → Splits c path x → x ≡ None → NextOf s (failing S N (segments_in c path) w) row None
failing_unsplit s c S N w row path x splits e = record { value = rw (unsplit c path x splits e) (none_fails S N w (types_in s row)); follows = omega arith }

pub ruleset failing_path = (rules, failing_unsplit)
