-- A path on all the entity types that a scope admits, in one pass. Assumes nothing.
use mathlib.Core.Path.{◌≡◌, refl, sym, ap, ◌∙◌}
use mathlib.Core.Bool.{Bool, true, false, cond, ◌&&◌}
use mathlib.Core.List.{List, [], ◌∷◌}
use mathlib.Core.Option.{Option, none, some}
use Prim.Native.Nat.{ℕ, ◌<◌}
use native.Mathlib.Omega.{arith}
use borrow.Author.Rules.{rules}
use Rattle.names.specs.Lists.{maybe, first, every, select}
use Rattle.names.specs.Read.{word_at, Found}
use Rattle.types.specs.Types.{Ty, same_type}
use Rattle.types.specs.Meaning.{rich_of}
use Rattle.types.specs.declared.Rich.{Rich}
use Rattle.schema.specs.Schema.{Schema, EntityType}
use Rattle.schema.specs.Find.{find_entity}
use Rattle.schema.specs.Places.{schema_in, is_entity, entity_in, FindsEntity}
use Rattle.schema.specs.Laws.Nearby.{nearby_all}
use Rattle.names.specs.declared.Row.{Row}
use Rattle.targets.specs.Targets.{Narrowing}
use Rattle.resolution.specs.Resolution as Resolution
use Rattle.resolution.specs.Resolution.{OnType, ambiguous, unknown, typed, types_of, failed, agreed, failure, verdict, on_entity, on_types_by, on_types, declared_all, admitted_by, admitted, scope_path_by, scope_path, renderings}
use Rattle.resolution.specs.Places.{segments_in, are_types, types_in, Follows, NextPlaced, end_of, small_end, small_path}
use Rattle.resolution.specs.Passes.{scope_of, briefly, end_alone, end_beside, end_among, with_end, failed_by, alone_of, among_of}
use Rattle.resolution.specs.declared.Failure.{Failure}
use Rattle.resolution.specs.Coded.{PathEnd}
use Rattle.resolution.specs.declared.ScopePath.{ScopePath}
use Rattle.resolution.specs.Laws.Segments.{unsplit}
use Rattle.std.specs.Prelude.{Some, None, Ok, Err}
use Rattle.resolution.specs.Paths.{Splits}
use Rattle.resolution.specs.declared.path.Headed.{Headed}
use Rattle.std.specs.Prelude as code
use Rattle.resolution.specs.Coded.{NextNear}

-- One more entity type, in the code's answers.
-- the answers by what a path ends in
module _ (e : PathEnd) where
  alone_failed_of : (f : Failure) → failed_by f ≡ alone_of (Err f)
  alone_failed_of (Failure.Missing p) = refl
  alone_failed_of (Failure.NonRecord p) = refl

  among_failed_of : (f : Failure) → failed_by f ≡ among_of (Err f)
  among_failed_of (Failure.Missing p) = refl
  among_failed_of (Failure.NonRecord p) = refl

  pub alone_resolved : (t : Rich) → e ≡ Ok t → ScopePath.Resolved t ≡ alone_of e
  alone_resolved t i = rw i

  pub alone_failed : (f : Failure) → e ≡ Err f → (r : ScopePath) → r ≡ failed_by f → r ≡ alone_of e
  alone_failed f i r is = rw (i, is) (alone_failed_of f)

  pub among_failed : (f : Failure) → e ≡ Err f → (r : ScopePath) → r ≡ failed_by f → r ≡ among_of e
  among_failed f i r is = rw (i, is) (among_failed_of f)

pub ruleset ending = (rules, alone_resolved, alone_failed, among_failed)

module _ (s c : List ℕ) where
  alone_of_lem : (e : PathEnd) → scope_of s c (alone_of e) ≡ end_alone (end_of s c e)
  unfolding end_alone
  alone_of_lem (Ok t) = refl
  alone_of_lem (Err (Failure.Missing p)) = refl
  alone_of_lem (Err (Failure.NonRecord p)) = refl

  among_of_lem : (e : PathEnd) → scope_of s c (among_of e) ≡ end_among (end_of s c e)
  unfolding end_among
  among_of_lem (Ok t) = refl
  among_of_lem (Err (Failure.Missing p)) = refl
  among_of_lem (Err (Failure.NonRecord p)) = refl

  module _ (t : Rich) where
    pub beside_same : (u : Rich) (b : Bool) → b ≡ same_type (rich_of s c u) (rich_of s c t) → b ≡ true → scope_of s c (ScopePath.Resolved t) ≡ end_beside (rich_of s c t) (end_of s c (Ok u))
    unfolding end_beside
    beside_same u b is e = rw (← is, e)

    pub beside_other : (u : Rich) (b : Bool) → b ≡ same_type (rich_of s c u) (rich_of s c t) → b ≡ false → scope_of s c ScopePath.Ambiguous ≡ end_beside (rich_of s c t) (end_of s c (Ok u))
    unfolding end_beside
    beside_other u b is e = rw (← is, e)

    module _ (e : PathEnd) where
      pub beside_resolved : (u : Rich) → e ≡ Ok u → (r : ScopePath) → scope_of s c r ≡ end_beside (rich_of s c t) (end_of s c (Ok u)) → scope_of s c r ≡ end_beside (rich_of s c t) (end_of s c e)
      beside_resolved u i r is = rw i is

      pub beside_failed : (f : Failure) → e ≡ Err f → (r : ScopePath) → r ≡ failed_by f → scope_of s c r ≡ end_beside (rich_of s c t) (end_of s c e)
      unfolding end_beside
      beside_failed f i r is = rw (i, is) (go f)
        where
          go : (f : Failure) → scope_of s c (failed_by f) ≡ end_beside (rich_of s c t) (end_of s c (Err f))
          go (Failure.Missing p) = refl
          go (Failure.NonRecord p) = refl

  module _ (a : ScopePath) (e : PathEnd) where
    pub with_resolved : (t : Rich) → a ≡ ScopePath.Resolved t → (r : ScopePath) → scope_of s c r ≡ end_beside (rich_of s c t) (end_of s c e) → scope_of s c r ≡ with_end (scope_of s c a) (end_of s c e)
    unfolding with_end
    with_resolved t i r is = rw i is

    pub with_failed : ((t : Rich) → a ≡ ScopePath.Resolved t → ⊥) → (a ≡ ScopePath.Ambiguous → ⊥) → (a ≡ ScopePath.Unknown → ⊥) → scope_of s c a ≡ with_end (scope_of s c a) (end_of s c e)
    unfolding with_end
    with_failed = go a
      where
        go : (a : ScopePath) → ((t : Rich) → a ≡ ScopePath.Resolved t → ⊥) → (a ≡ ScopePath.Ambiguous → ⊥) → (a ≡ ScopePath.Unknown → ⊥) → scope_of s c a ≡ with_end (scope_of s c a) (end_of s c e)
        go (ScopePath.Resolved t) h k l = absurd (h t refl)
        go (ScopePath.Missing p) h k l = refl
        go (ScopePath.NonRecord p) h k l = refl
        go ScopePath.Ambiguous h k l = absurd (k refl)
        go ScopePath.Unknown h k l = absurd (l refl)

    pub with_ambiguous : a ≡ ScopePath.Ambiguous → (r : ScopePath) → r ≡ among_of e → scope_of s c r ≡ with_end (scope_of s c a) (end_of s c e)
    unfolding with_end
    with_ambiguous i r is = rw (i, is) (among_of_lem e)

    pub with_none : a ≡ ScopePath.Unknown → (r : ScopePath) → r ≡ alone_of e → scope_of s c r ≡ with_end (scope_of s c a) (end_of s c e)
    unfolding with_end
    with_none i r is = rw (i, is) (alone_of_lem e)

pub ruleset joining = (rules, beside_same, beside_other, beside_resolved, beside_failed, with_resolved, with_failed, with_ambiguous, with_none)

-- The answer for the entity types so far, and on over the others.
unfoldable pub onward : Resolution.ScopePath → List OnType → Resolution.ScopePath
onward a [] = a
onward a (e ∷ es) = onward (with_end a e.path) es

abbrev short_failure : Resolution.PathEnd → Resolution.ScopePath
short_failure (Resolution.PathEnd.resolved t) = unknown
short_failure (Resolution.PathEnd.missing segment) = Resolution.ScopePath.missing segment []
short_failure (Resolution.PathEnd.non_record segment) = Resolution.ScopePath.non_record segment

-- the first failure, else a
abbrev decided : Resolution.ScopePath → List OnType → Resolution.ScopePath
decided a es = maybe a (λ e. short_failure e.path) (first (λ e. failed e.path) es)

decided_first : (a : Resolution.ScopePath) (e : OnType) (es : List OnType) → decided a (e ∷ es) ≡ cond (failed e.path) (short_failure e.path) (decided a es)
unfolding first
decided_first a e es = go (failed e.path)
  where
    go : (b : Bool) → maybe a (λ e. short_failure e.path) (cond b (some e) (first (λ e. failed e.path) es)) ≡ cond b (short_failure e.path) (decided a es)
    go true = refl
    go false = refl

missing_stays : (w : List ℕ) (es : List OnType) → onward (Resolution.ScopePath.missing w []) es ≡ Resolution.ScopePath.missing w []
unfolding onward with_end
missing_stays w [] = refl
missing_stays w (e ∷ es) = missing_stays w es

plain_stays : (w : List ℕ) (es : List OnType) → onward (Resolution.ScopePath.non_record w) es ≡ Resolution.ScopePath.non_record w
unfolding onward with_end
plain_stays w [] = refl
plain_stays w (e ∷ es) = plain_stays w es

differing : (es : List OnType) → onward (ambiguous []) es ≡ decided (ambiguous []) es
unfolding onward with_end first end_among failed
differing [] = refl
differing (e ∷ es) = go e.path (differing es) ∙ sym (decided_first (ambiguous []) e es)
  where
    go : (p : Resolution.PathEnd) → onward (ambiguous []) es ≡ decided (ambiguous []) es → onward (end_among p) es ≡ cond (failed p) (short_failure p) (decided (ambiguous []) es)
    go (Resolution.PathEnd.resolved t) rest = rest
    go (Resolution.PathEnd.missing w) rest = missing_stays w es
    go (Resolution.PathEnd.non_record w) rest = plain_stays w es

agree : Ty → List Ty → Resolution.ScopePath
agree t ts = cond (every (λ u. same_type u t) ts) (Resolution.ScopePath.resolved t) (ambiguous [])

agreeing : (t : Ty) (es : List OnType) → onward (Resolution.ScopePath.resolved t) es ≡ decided (agree t (types_of es)) es
unfolding onward with_end first types_of every agree end_beside failed typed
agreeing t [] = refl
agreeing t (e ∷ es) = go e.path (agreeing t es) ∙ sym (decided_first (agree t (types_of (e ∷ es))) e es)
  where
    go : (p : Resolution.PathEnd) → onward (Resolution.ScopePath.resolved t) es ≡ decided (agree t (types_of es)) es → onward (end_beside t p) es ≡ cond (failed p) (short_failure p) (decided (agree t (maybe (types_of es) (λ u. u ∷ types_of es) (typed p))) es)
    go (Resolution.PathEnd.resolved u) rest = on (same_type u t)
      where
        on : (b : Bool) → onward (cond b (Resolution.ScopePath.resolved t) (ambiguous [])) es ≡ decided (cond (b && every (λ v. same_type v t) (types_of es)) (Resolution.ScopePath.resolved t) (ambiguous [])) es
        on true = rest
        on false = differing es
    go (Resolution.PathEnd.missing w) rest = missing_stays w es
    go (Resolution.PathEnd.non_record w) rest = plain_stays w es

brief_agreed : (t : Ty) (ts : List Ty) → briefly (agreed (t ∷ ts)) ≡ agree t ts
unfolding briefly agreed agree
brief_agreed t ts = go (every (λ u. same_type u t) ts)
  where
    go : (b : Bool) → briefly (cond b (Resolution.ScopePath.resolved t) (ambiguous (renderings (t ∷ ts)))) ≡ cond b (Resolution.ScopePath.resolved t) (ambiguous [])
    go true = refl
    go false = refl

all_together : (es : List OnType) → onward unknown es ≡ decided (briefly (agreed (types_of es))) es
unfolding onward with_end first types_of agreed briefly end_alone failed typed
all_together [] = refl
all_together (e ∷ es) = go e.path ∙ sym (decided_first (briefly (agreed (types_of (e ∷ es)))) e es)
  where
    go : (p : Resolution.PathEnd) → onward (end_alone p) es ≡ cond (failed p) (short_failure p) (decided (briefly (agreed (maybe (types_of es) (λ u. u ∷ types_of es) (typed p)))) es)
    go (Resolution.PathEnd.resolved u) = agreeing u es ∙ ap (λ (a : Resolution.ScopePath). decided a es) (sym (brief_agreed u (types_of es)))
    go (Resolution.PathEnd.missing w) = missing_stays w es
    go (Resolution.PathEnd.non_record w) = plain_stays w es

brief_verdict : (es : List OnType) → briefly (verdict es) ≡ onward unknown es
unfolding verdict failure briefly
brief_verdict es = go (first (λ e. failed e.path) es) ∙ sym (all_together es)
  where
    of : (p : Resolution.PathEnd) → briefly (failure es p) ≡ short_failure p
    of (Resolution.PathEnd.resolved t) = refl
    of (Resolution.PathEnd.missing w) = refl
    of (Resolution.PathEnd.non_record w) = refl

    go : (o : Option OnType) → briefly (maybe (agreed (types_of es)) (λ e. failure es e.path) o) ≡ maybe (briefly (agreed (types_of es))) (λ e. short_failure e.path) o
    go none = refl
    go (some e) = of e.path

-- the same over names, where all are declared
abbrev pub over : Schema → List ℕ → List (List ℕ) → Resolution.ScopePath → List (List ℕ) → Resolution.ScopePath
over S head rest a names = maybe unknown (λ es. onward a (on_types head rest es)) (declared_all S names)

module _ (S : Schema) (head : List ℕ) (rest : List (List ℕ)) where
  over_all : (o : Option Narrowing) (names : List (List ℕ)) → over S head rest unknown (select (admitted_by S o) names) ≡ briefly (scope_path S o names (head ∷ rest))
  unfolding scope_path_by admitted briefly
  over_all o names = go (declared_all S (select (admitted_by S o) names))
    where
      go : (d : Option (List EntityType)) → maybe unknown (λ es. onward unknown (on_types head rest es)) d ≡ briefly (maybe unknown (λ es. verdict (on_types head rest es)) d)
      go none = refl
      go (some es) = sym (brief_verdict (on_types head rest es))

  module _ (a : Resolution.ScopePath) (name : List ℕ) (names : List (List ℕ)) where
    over_undeclared : find_entity S name ≡ none → over S head rest a (name ∷ names) ≡ unknown
    unfolding declared_all
    over_undeclared e = rw e

    over_declared : (e : EntityType) → find_entity S name ≡ some e → over S head rest a (name ∷ names) ≡ over S head rest (with_end a (on_entity head rest e)) names
    unfolding declared_all onward on_types_by
    over_declared e i = rw i (go (declared_all S names))
      where
        go : (d : Option (List EntityType)) → maybe unknown (λ es. onward a (on_types head rest es)) (maybe none (λ es. some (e ∷ es)) d) ≡ maybe unknown (λ es. onward (with_end a (on_entity head rest e)) (on_types head rest es)) d
        go none = refl
        go (some es) = refl

-- types that are small stay so
with_small : (a : Resolution.ScopePath) (e : Resolution.PathEnd) → small_path a → small_end e → small_path (with_end a e)
unfolding with_end end_alone end_beside end_among
with_small unknown (Resolution.PathEnd.resolved t) h k = k
with_small unknown (Resolution.PathEnd.missing w) h k = k
with_small unknown (Resolution.PathEnd.non_record w) h k = k
with_small (Resolution.ScopePath.resolved t) (Resolution.PathEnd.resolved u) h k = go (same_type u t)
  where
    go : (b : Bool) → small_path (cond b (Resolution.ScopePath.resolved t) (ambiguous []))
    go true = h
    go false = omega arith
with_small (Resolution.ScopePath.resolved t) (Resolution.PathEnd.missing w) h k = k
with_small (Resolution.ScopePath.resolved t) (Resolution.PathEnd.non_record w) h k = k
with_small (ambiguous ws) (Resolution.PathEnd.resolved u) h k = h
with_small (ambiguous ws) (Resolution.PathEnd.missing w) h k = k
with_small (ambiguous ws) (Resolution.PathEnd.non_record w) h k = k
with_small (Resolution.ScopePath.missing w ws) e h k = h
with_small (Resolution.ScopePath.non_record w) e h k = h

-- The pass over a row.
module _ (s c : List ℕ) (N : Option Narrowing) (head : ℕ) (rest : Row) (o : Resolution.ScopePath) where
  pub record Passing (row : Row) (a : ScopePath) : Type 0 where
    pub stands : are_types s row ≡ true
    pub same : over (schema_in s) (word_at c head) (segments_in c rest) (scope_of s c a) (select (admitted_by (schema_in s) N) (types_in s row)) ≡ o
    pub small : small_path (scope_of s c a)

  pub pass_small : (row : Row) (a : ScopePath) → Passing row a → small_path (scope_of s c a)
  pass_small row a l = l.small

  module _ (row : Row) (a : ScopePath) (l : Passing row a) (x : NextNear) (next : NextPlaced s (admitted_by (schema_in s) N) row x) where
    pub pass_over : x ≡ None → scope_of s c a ≡ o
    unfolding declared_all on_types_by onward
    pass_over e = rw (← (rw e at next.next.value)) at l.same

    module _ (p : ℕ) (others near : Row) (e : x ≡ Some (p, others, near)) where
      pub pass_fewer : others.count < row.count
      pass_fewer = let f : Follows s row p others = rw e at next.next.follows in f.fewer

      here : over (schema_in s) (word_at c head) (segments_in c rest) (scope_of s c a) (word_at s p ∷ select (admitted_by (schema_in s) N) (types_in s others)) ≡ o
      here = ap (over (schema_in s) (word_at c head) (segments_in c rest) (scope_of s c a)) (rw e at next.next.value) ∙ l.same

      module _ (w : List ℕ) (is_w : w ≡ word_at s p) (y : Found) (finds : FindsEntity s (find_entity (schema_in s) w) y) where
        pub pass_undeclared : y ≡ None → scope_of s c ScopePath.Unknown ≡ o
        pass_undeclared g =
            let i : find_entity (schema_in s) (word_at s p) ≡ none = rw (← is_w) (sym finds.value ∙ rw g) in
            sym (over_undeclared (schema_in s) (word_at c head) (segments_in c rest) (scope_of s c a) (word_at s p) (select (admitted_by (schema_in s) N) (types_in s others)) i) ∙ here

        pub pass_declared : (at : ℕ) → y ≡ Some at → is_entity s at ≡ true
        pass_declared at g = rw g at finds.stands

        pub pass_on : (at : ℕ) → y ≡ Some at → (end : PathEnd) → end_of s c end ≡ on_entity (word_at c head) (segments_in c rest) (entity_in s at) → small_end (end_of s c end) → (b : ScopePath) → scope_of s c b ≡ with_end (scope_of s c a) (end_of s c end) → Passing others b
        pass_on at g end is fits b joins =
            let i : find_entity (schema_in s) (word_at s p) ≡ some (entity_in s at) = rw (← is_w) (sym finds.value ∙ rw g) in
            let f : Follows s row p others = rw e at next.next.follows in
            record {
              stands = f.stands;
              same =
                  ap (λ (d : Resolution.ScopePath). over (schema_in s) (word_at c head) (segments_in c rest) d (select (admitted_by (schema_in s) N) (types_in s others))) (joins ∙ ap (with_end (scope_of s c a)) is)
                  ∙ sym (over_declared (schema_in s) (word_at c head) (segments_in c rest) (scope_of s c a) (word_at s p) (select (admitted_by (schema_in s) N) (types_in s others)) (entity_in s at) i)
                  ∙ here;
              small = rw joins (with_small (scope_of s c a) (end_of s c end) l.small fits);
            }

pub pass_start : (s c : List ℕ) (N : Option Narrowing) (head : ℕ) (rest row : Row) → are_types s row ≡ true → Passing s c N head rest (briefly (scope_path (schema_in s) N (types_in s row) (word_at c head ∷ segments_in c rest))) row ScopePath.Unknown
pass_start s c N head rest row are = record { stands = are; same = over_all (schema_in s) (word_at c head) (segments_in c rest) N (types_in s row); small = omega arith }

pub ruleset passing = (rules, pass_start, pass_over, pass_small, pass_fewer, pass_undeclared, pass_declared, pass_on)

-- A path without segments is unknown.
pub scope_empty : (s c : List ℕ) (S : Schema) (N : Option Narrowing) (names : List (List ℕ)) (path : Row) (x : code.Option Headed) → Splits c path x → x ≡ None → scope_of s c ScopePath.Unknown ≡ briefly (scope_path S N names (segments_in c path))
unfolding scope_path_by briefly
scope_empty s c S N names path x splits e = rw (unsplit c path x splits e)

pub ruleset whole = (rules, nearby_all, scope_empty)
