-- What a narrowing admits, and the passes over the entity types of a side. Assumes nothing.
use mathlib.Core.Path.{◌≡◌, refl, sym, ap, ◌∙◌}
use mathlib.Core.Bool.{Bool, true, false, cond, ◌||◌, false≢true}
use mathlib.Core.List.{List, [], ◌∷◌}
use mathlib.Core.Option.{Option, none, some}
use Prim.Native.Nat.{ℕ, ◌+◌, ◌-◌, ◌≤◌, ◌<◌}
use native.Mathlib.Omega.{arith}
use lib.ListN.{length, get_or, drop}
use borrow.Author.Rules.{rules}
use Rattle.names.specs.Lists.{any_of, select}
use Rattle.names.specs.Fields.{string_of}
use Rattle.names.specs.Names.{path_name, same, simple_name}
use Rattle.names.specs.Read.{word_at, Listed, Found}
use Rattle.names.specs.Laws.Walks.{take_at_most}
use Rattle.names.specs.Laws.Rows.{Remaining, remaining_all, remaining_over, StringsLeft, strings_left}
use Rattle.types.specs.Meaning.{bytes_of, tag_of, layered, rich_of}
use Rattle.types.specs.Laws.Texts.{layers_in, tag_in, Small}
use Rattle.types.specs.declared.Tag.{Tag}
use Rattle.types.specs.declared.Base.TheVariants as Base
use Rattle.schema.specs.Schema.{Schema}
use Rattle.schema.specs.Find.{find_entity}
use Rattle.schema.specs.Places.{schema_in, is_entity, entity_in, action_in, FindsEntity, Nearby, Near}
use Rattle.schema.specs.Laws.Nearby.{nearby_all, near_word}
use Rattle.names.specs.declared.Row.{Row}
use Rattle.targets.specs.Targets.{Narrowing}
use Rattle.targets.specs.Places.{narrowed, targets_in}
use Rattle.targets.specs.declared.Narrowed.{Narrowed}
use Rattle.resolution.specs.Resolution.{ancestors_of, admits, admitted_by, side_admits, admitted, admits_any_env, entity_of, scope_type}
use Rattle.resolution.specs.Places.{are_types, types_in, is_absent, Nearer, Follows, NextOf, NextNearOf, NextPlaced, typed_of, small_type}
use Rattle.std.specs.Prelude.{Some, None, is_some}
use Rattle.types.specs.declared.Rich.{Rich}
use Rattle.resolution.specs.Coded.{NextNear, Next}

-- A type is the one named, or lists it among its ancestors.
module _ (s name group : List ℕ) (b : Bool) (is_b : b ≡ same name group) where
  abbrev Among : Bool → Type 0
  Among r = r ≡ (same name group || any_of (λ a. same a group) (ancestors_of (schema_in s) name))

  pub in_itself : b ≡ true → Among true
  in_itself e = rw (← is_b, e)

  module _ (e : b ≡ false) (x : Found) (finds : FindsEntity s (find_entity (schema_in s) name) x) where
    pub in_undeclared : x ≡ None → Among false
    unfolding ancestors_of any_of
    in_undeclared g =
        let i : find_entity (schema_in s) name ≡ none = sym finds.value ∙ rw g in
        rw (← is_b, e, i)

    pub in_declared : (at : ℕ) → x ≡ Some at → is_entity s at ≡ true
    in_declared at g = rw g at finds.stands

    pub in_ancestors : (at : ℕ) → x ≡ Some at → (r : Bool) → r ≡ any_of (λ a. same a group) (entity_in s at).ancestors → Among r
    unfolding ancestors_of
    in_ancestors at g r is =
        let i : find_entity (schema_in s) name ≡ some (entity_in s at) = sym finds.value ∙ rw g in
        rw (← is_b, e, i) is

pub ruleset among = (rules, near_word, in_itself, in_undeclared, in_declared, in_ancestors)

-- The narrowings.
module _ (s : Schema) (n name : List ℕ) (x : Narrowed) where
  pub narrow_absent : x ≡ Narrowed.Absent → true ≡ admitted_by s (narrowed n x) name
  unfolding admitted_by
  narrow_absent e = rw e

  pub narrow_any : x ≡ Narrowed.Any → true ≡ admitted_by s (narrowed n x) name
  unfolding admitted_by admits
  narrow_any e = rw e

  module _ (p : ℕ) (w : List ℕ) (is_w : w ≡ word_at n p) (r : Bool) where
    pub narrow_type : x ≡ Narrowed.IsType p → r ≡ same name w → r ≡ admitted_by s (narrowed n x) name
    unfolding admitted_by admits
    narrow_type e is = rw (e, ← is_w) is

    pub narrow_uid : x ≡ Narrowed.Uid p → r ≡ same name w → r ≡ admitted_by s (narrowed n x) name
    unfolding admitted_by admits
    narrow_uid e is = rw (e, ← is_w) (is ∙ or_none (same name w))
      where
        or_none : (b : Bool) → b ≡ (b || false)
        or_none true = refl
        or_none false = refl

    pub narrow_member : x ≡ Narrowed.Member p → r ≡ (same name w || any_of (λ a. same a w) (ancestors_of s name)) → r ≡ admitted_by s (narrowed n x) name
    unfolding admitted_by admits
    narrow_member e is = rw (e, ← is_w) is

-- Where the next search for an entity type begins.
module _ (s name : List ℕ) (x : Narrowed) (r : Row) where
  pub nearer_absent : x ≡ Narrowed.Absent → Nearby s r → Nearer s name x r
  nearer_absent e l = record { row = l; near = rw e l }

  pub nearer_any : x ≡ Narrowed.Any → Nearby s r → Nearer s name x r
  nearer_any e l = record { row = l; near = rw e l }

  pub nearer_type : (p : ℕ) → x ≡ Narrowed.IsType p → Nearby s r → Nearer s name x r
  nearer_type p e l = record { row = l; near = rw e l }

  pub nearer_uid : (p : ℕ) → x ≡ Narrowed.Uid p → Nearby s r → Nearer s name x r
  nearer_uid p e l = record { row = l; near = rw e l }

  pub nearer_member : (p : ℕ) → x ≡ Narrowed.Member p → Near s name r → Nearer s name x r
  nearer_member p e l = record { row = l.row; near = rw e l }

  pub member_near : (p : ℕ) → x ≡ Narrowed.Member p → Nearer s name x r → Near s name r
  member_near p e l = rw e at l.near

-- What a pass found, and where it goes on.
module _ (s : List ℕ) (test : List ℕ → Bool) (row : Row) (x : NextNear) where
  pub next_from : NextNearOf s test row x → (p : ℕ) (rest near : Row) → x ≡ Some (p, rest, near) → Nearby s near
  next_from l p rest near e = rw e at l.near

  pub plain_name : NextNearOf s test row x → (p : ℕ) (rest near : Row) → x ≡ Some (p, rest, near) → NextOf s test row (Some (p, rest))
  plain_name l p rest near e = rw e at l.next

  pub plain_over : NextNearOf s test row x → x ≡ None → NextOf s test row None
  plain_over l e = rw e at l.next

-- The same with the search for its entity type.
module _ (s : List ℕ) (test : List ℕ → Bool) (row : Row) (x : NextNear) where
  module _ (l : NextNearOf s test row x) where
    pub placed_name : (p : ℕ) (rest around : Row) → x ≡ Some (p, rest, around) → (w : List ℕ) → w ≡ word_at s p → (near : Row) → Near s w near → NextPlaced s test row (Some (p, rest, near))
    placed_name p rest around e w is_w near at = record { next = plain_name s test row x l p rest around e; near = rw (← is_w) at }

    pub placed_over : x ≡ None → NextPlaced s test row None
    placed_over e = record { next = plain_over s test row x l e; near = omega arith }

  pub placed_near : NextPlaced s test row x → (p : ℕ) (rest near : Row) → x ≡ Some (p, rest, near) → Near s (word_at s p) near
  placed_near l p rest near e = rw e at l.near

  pub placed_nearby : NextPlaced s test row x → (p : ℕ) (rest near : Row) → x ≡ Some (p, rest, near) → Nearby s near
  placed_nearby l p rest near e = (placed_near l p rest near e).row

pub ruleset placing = (rules, next_from, placed_name, placed_over)

pub ruleset nearby = (rules, nearby_all, nearer_absent, nearer_any, nearer_type, nearer_uid, nearer_member, plain_name, plain_over)

-- for a walk along both rows, what is known of the one beside where the search in the other goes on
pub record Along (P : Type 0) (s : List ℕ) (near : Row) : Type 0 where
  pub own : P
  pub begins : Nearby s near

pub ruleset alongside = (nearby_all, near_word, placed_near, placed_nearby)

pub ruleset narrowing = (rules, member_near, narrow_absent, narrow_any, narrow_type, narrow_uid, narrow_member)

-- A pass over a row of names, by a test.
module _ (s : List ℕ) (test : List ℕ → Bool) (row : Row) where
  pub record Scanning (n at : ℕ) : Type 0 where
    pub there : Remaining (string_of path_name) s (select test) (select test (types_in s row)) n at
    pub fewer : n ≤ row.count

  pub scan_start : are_types s row ≡ true → Scanning row.count row.at
  scan_start are = record { there = remaining_all (string_of path_name) s (select test) row.count row.at are; fewer = omega arith }

  pub scan_over : (n at : ℕ) → Scanning n at → n ≤ 0 → NextOf s test row None
  unfolding select
  scan_over n at l h = record { value = remaining_over (string_of path_name) s (select test) (select test (types_in s row)) n at h l.there; follows = omega arith }

  module _ (n at : ℕ) (h : 0 < n) (l : Scanning n at) where
    opened : StringsLeft path_name s (select test) (select test (types_in s row)) n at
    opened = strings_left path_name s (select test) (select test (types_in s row)) n at h l.there

    pub scan_inside : at + 1 + get_or s at 0 ≤ length s
    scan_inside = opened.inside

    module _ (w : List ℕ) (is_w : w ≡ word_at s at) (b : Bool) (is_b : b ≡ test w) (m : ℕ) (place : m ≡ at + 1 + get_or s at 0) where
      pub scan_found : b ≡ true → NextOf s test row (Some (at, (record { count = n - 1; at = m })))
      unfolding select
      scan_found e =
          let t : test (word_at s at) ≡ true = rw (← is_w, ← is_b) e in
          let f = l.fewer in
          let v : types_in s (record { count = n - 1; at = m }) ≡ opened.others = rw place opened.there.value in
          record {
            value = ap (λ (ws : List (List ℕ)). word_at s at ∷ select test ws) v ∙ rw t at opened.same;
            follows = record { inside = opened.inside; stands = rw place opened.there.stands; fewer = omega arith };
          }

      pub scan_on : b ≡ false → Scanning (n - 1) m
      unfolding select
      scan_on e =
          let t : test (word_at s at) ≡ false = rw (← is_w, ← is_b) e in
          let f = l.fewer in
          record { there = record { left = opened.others; there = rw place opened.there; same = rw t at opened.same }; fewer = omega arith }

pub ruleset scanning = (rules, scan_start, scan_over, scan_inside, scan_found, scan_on)

-- Some name passes a test where a pass finds one.
module _ {A : Type 0} (test : A → Bool) where
  pub any_none : (xs : List A) → [] ≡ select test xs → false ≡ any_of test xs
  unfolding select any_of
  any_none [] e = refl
  any_none (x ∷ xs) e = go (test x) e (any_none xs)
    where
      go : (b : Bool) → [] ≡ cond b (x ∷ select test xs) (select test xs) → ([] ≡ select test xs → false ≡ any_of test xs) → false ≡ (b || any_of test xs)
      go true e rest = let z : ◌≡◌ {A = ℕ} 0 1 = cc in absurd (omega arith)
      go false e rest = rest e

  pub any_some : (a : A) (ys xs : List A) → a ∷ ys ≡ select test xs → true ≡ any_of test xs
  unfolding select any_of
  any_some a ys [] e = let z : ◌≡◌ {A = ℕ} 0 1 = cc in absurd (omega arith)
  any_some a ys (x ∷ xs) e = go (test x) e (any_some a ys xs)
    where
      go : (b : Bool) → a ∷ ys ≡ cond b (x ∷ select test xs) (select test xs) → (a ∷ ys ≡ select test xs → true ≡ any_of test xs) → true ≡ (b || any_of test xs)
      go true e rest = refl
      go false e rest = rest e

-- One side.
module _ (S : Schema) (n : List ℕ) (x : Narrowed) where
  pub side_unasked : (names : List (List ℕ)) → is_absent x ≡ true → true ≡ side_admits S (narrowed n x) names
  unfolding side_admits
  side_unasked names = go x
    where
      go : (x : Narrowed) → is_absent x ≡ true → true ≡ side_admits S (narrowed n x) names
      go Narrowed.Absent e = refl
      go Narrowed.Any e = cc
      go (Narrowed.IsType p) e = cc
      go (Narrowed.Uid p) e = cc
      go (Narrowed.Member p) e = cc

  side_asked : (names : List (List ℕ)) → is_absent x ≡ false → any_of (admitted_by S (narrowed n x)) names ≡ side_admits S (narrowed n x) names
  unfolding side_admits admitted_by
  side_asked names = go x
    where
      go : (x : Narrowed) → is_absent x ≡ false → any_of (admitted_by S (narrowed n x)) names ≡ side_admits S (narrowed n x) names
      go Narrowed.Absent e = cc
      go Narrowed.Any e = refl
      go (Narrowed.IsType p) e = refl
      go (Narrowed.Uid p) e = refl
      go (Narrowed.Member p) e = refl

  module _ (s : List ℕ) (row : Row) (b : Bool) (is_b : b ≡ is_absent x) where
    pub side_free : b ≡ true → true ≡ side_admits S (narrowed n x) (types_in s row)
    side_free e = side_unasked (types_in s row) (sym is_b ∙ e)

    module _ (e : b ≡ false) (y : Next) (next : NextOf s (admitted_by S (narrowed n x)) row y) where
      side_empty : y ≡ None → false ≡ side_admits S (narrowed n x) (types_in s row)
      side_empty g = any_none _ (types_in s row) (rw g at next.value) ∙ side_asked (types_in s row) (sym is_b ∙ e)

      side_some : (p : ℕ) (rest : Row) → y ≡ Some (p, rest) → true ≡ side_admits S (narrowed n x) (types_in s row)
      side_some p rest g = any_some _ _ _ (types_in s row) (rw g at next.value) ∙ side_asked (types_in s row) (sym is_b ∙ e)

      pub side_found : (r : Bool) → r ≡ is_some y → r ≡ side_admits S (narrowed n x) (types_in s row)
      side_found r is = is ∙ go y refl
        where
          go : (z : Next) → y ≡ z → is_some z ≡ side_admits S (narrowed n x) (types_in s row)
          go None g = side_empty g
          go (Some (p, rest)) g = side_some p rest g

pub ruleset sides = (rules, side_free, side_found)

-- Both sides.
module _ (s n : List ℕ) (a : ℕ) (ps : Row) (is_ps : Listed (string_of path_name) s (action_in s a).principals ps.count ps.at) (p : Narrowed) (is_p : narrowed n p ≡ (targets_in n).scope.principal) (b : Bool) (is_b : b ≡ side_admits (schema_in s) (narrowed n p) (types_in s ps)) where
  pub env_none : b ≡ false → false ≡ admits_any_env (schema_in s) (targets_in n).scope (action_in s a)
  unfolding admits_any_env
  env_none e =
      let i : side_admits (schema_in s) (targets_in n).scope.principal (action_in s a).principals ≡ false = rw (← is_p, ← is_ps.value) (sym is_b ∙ e) in
      rw i

  pub env_by : b ≡ true → (rs : Row) → Listed (string_of path_name) s (action_in s a).resources rs.count rs.at → (q : Narrowed) → narrowed n q ≡ (targets_in n).scope.resource → (r : Bool) → r ≡ side_admits (schema_in s) (narrowed n q) (types_in s rs) → r ≡ admits_any_env (schema_in s) (targets_in n).scope (action_in s a)
  unfolding admits_any_env
  env_by e rs is_rs q is_q r is =
      let i : side_admits (schema_in s) (targets_in n).scope.principal (action_in s a).principals ≡ true = rw (← is_p, ← is_ps.value) (sym is_b ∙ e) in
      rw (i, ← is_q, ← is_rs.value) is

pub ruleset environments = (rules, env_none, env_by)

-- The type of a bare root.
module _ (s : List ℕ) (S : Schema) (o : Option Narrowing) (row : Row) (x : Next) (next : NextOf s (admitted_by S o) row x) where
  pub type_none : x ≡ None → (c : List ℕ) → typed_of s c None ≡ scope_type S o (types_in s row)
  unfolding scope_type admitted entity_of
  type_none e c = rw (← (rw e at next.value))

  module _ (p : ℕ) (rest : Row) (e : x ≡ Some (p, rest)) where
    follows : Follows s row p rest
    follows = rw e at next.follows

    pub type_rest : are_types s rest ≡ true
    type_rest = follows.stands

    pub type_inside : p + 1 + get_or s p 0 ≤ length s
    type_inside = follows.inside

    module _ (y : Next) (more : NextOf s (admitted_by S o) rest y) where
      module _ (b : Bool) (is_b : b ≡ is_some y) (r : Rich) where
        pub type_several : b ≡ true → r ≡ record { layers = 0; base = Base.Untagged } → (c : List ℕ) → typed_of s c (Some r) ≡ scope_type S o (types_in s row)
        unfolding scope_type admitted entity_of layered
        type_several h j c = go y refl
          where
            go : (z : Next) → y ≡ z → typed_of s c (Some r) ≡ scope_type S o (types_in s row)
            go None g = let i : true ≡ false = sym h ∙ is_b ∙ ap is_some g in absurd (false≢true (sym i))
            go (Some (q, others)) g = rw (j, ← (rw e at next.value), ← (rw g at more.value))

        pub type_one : b ≡ false → (tag : Tag) → r ≡ record { layers = 0; base = Base.Tagged tag } → ((c : List ℕ) → tag_of s c tag ≡ simple_name (word_at s p)) → (c : List ℕ) → typed_of s c (Some r) ≡ scope_type S o (types_in s row)
        unfolding scope_type admitted entity_of layered
        type_one h tag j is c = go y refl
          where
            go : (z : Next) → y ≡ z → typed_of s c (Some r) ≡ scope_type S o (types_in s row)
            go None g = rw (j, ← (rw e at next.value), ← (rw g at more.value), is c)
            go (Some (q, others)) g = let i : false ≡ true = sym h ∙ is_b ∙ ap is_some g in absurd (false≢true i)

-- a bare root's type is small
pub nothing_small : (s c : List ℕ) → small_type (typed_of s c None)
nothing_small s c = omega arith

pub untagged_small : (s : List ℕ) (r : Rich) → r ≡ record { layers = 0; base = Base.Untagged } → (c : List ℕ) → Small (rich_of s c r)
unfolding layered layers_in tag_in
untagged_small s r j c = rw j record { layers = omega arith; tag = omega arith }

pub tagged_small : (s : List ℕ) (tag : Tag) → tag.len ≤ 255 → (r : Rich) → r ≡ record { layers = 0; base = Base.Tagged tag } → (c : List ℕ) → Small (rich_of s c r)
unfolding layered layers_in tag_in
tagged_small s tag short r j c =
    rw j record { layers = omega arith; tag = let h = take_at_most tag.len (drop tag.at (bytes_of s c tag.source)) in omega (arith, h, short) }

pub ruleset tagging = (rules, type_none, type_rest, type_inside, type_several, type_one, nothing_small, untagged_small, tagged_small)
