-- The walk along the segments of a path into a record. Assumes nothing.
use Rattle.std.specs.Prelude.{◌≡◌, refl, true, List, [], ◌∷◌, ℕ, ◌+◌, ◌-◌, ◌≤◌, ◌<◌, length, get_or, Some, None, Ok, Err}
use Rattle.std.proofs.Math.Path.{sym, ap}
use Rattle.std.proofs.Common.{◌∙◌, arith, rules}
use Rattle.std.proofs.Math.Option.{Option, none, some}
use Rattle.names.specs.Lists.{maybe}
use Rattle.names.specs.Fields.{string_of}
use Rattle.names.specs.Names.{plain}
use Rattle.names.specs.Read.{word_at, Found}
use Rattle.names.specs.Laws.Rows.{Remaining, remaining_all, remaining_over, StringsLeft, strings_left}
use Rattle.types.specs.Meaning.{rich_of}
use Rattle.types.specs.Laws.Texts.{Small}
use Rattle.types.specs.declared.Rich.{Rich}
use Rattle.schema.specs.Schema.{Declared}
use Rattle.schema.specs.Find.{find_attribute, fields_of, rich_type}
use Rattle.schema.specs.Places.{type_in, is_type, fields_in, are_fields, action_in, Finds, FindsFields, Standing}
use Rattle.names.specs.declared.Row.{Row}
use Rattle.resolution.specs.Resolution as Resolution
use Rattle.resolution.specs.Resolution.{nested, descend_by, descend, resolve_in_by, resolve_in, context_path_by, context_path, context_type_by, context_type, type_at_end}
use Rattle.resolution.specs.Places.{are_segments, segments_in, Behind, resolution_of, typed_of, leaf_of, small_resolution, small_type}
use Rattle.resolution.specs.Laws.Sizes.{Bytes, type_small}
use Rattle.resolution.specs.Paths.{Split, Splits}
use Rattle.resolution.specs.declared.Unresolved.{Unresolved}
use Rattle.resolution.specs.Coded.{PathResolution}
use Rattle.resolution.specs.declared.path.Headed.{Headed}
use Rattle.std.specs.Prelude as code
use Rattle.std.specs.Result.{result_ok}
use Rattle.resolution.specs.Coded.{Typed}

-- what is left of a path, n segments from `at` and on from the type at `t`, ends as the whole does
pub record Left (s c : List ℕ) (o : Resolution.PathResolution) (n at t : ℕ) : Type 0 where
  pub stands : is_type s t ≡ true
  pub there : Remaining (string_of plain) c (λ ws. nested (descend (type_in s t) ws)) o n at

module _ (s c : List ℕ) (f : ℕ) (head : ℕ) (rest : Row) (w : List ℕ) (is_w : w ≡ word_at c head) (x : Found) (finds : Finds s (find_attribute (fields_in s f) w) x) where
  pub head_missing : x ≡ None → resolution_of s c (Err Unresolved.HeadMissing) ≡ resolve_in (fields_in s f) (word_at c head) (segments_in c rest)
  unfolding resolve_in_by
  head_missing e =
      let i : find_attribute (fields_in s f) (word_at c head) ≡ none = rw (← is_w) (sym finds.value ∙ rw e) in
      rw i

  pub head_found : (t : ℕ) → x ≡ Some t → are_segments c rest ≡ true → Left s c (resolve_in (fields_in s f) (word_at c head) (segments_in c rest)) (rest.count - 0) rest.at t
  unfolding resolve_in_by
  head_found t e are =
      let all : rest.count - 0 ≡ rest.count = omega arith in
      let i : find_attribute (fields_in s f) (word_at c head) ≡ some (type_in s t) = rw (← is_w) (sym finds.value ∙ rw e) in
      record {
        stands = rw e at finds.stands;
        there = rw (all, i) (remaining_all (string_of plain) c (λ ws. nested (descend (type_in s t) ws)) rest.count rest.at are);
      }

module _ (s c : List ℕ) (o : Resolution.PathResolution) (end k at t : ℕ) (l : Left s c o (end - k) at t) where
  abbrev n : ℕ
  n = end - k

  pub path_resolved : end ≤ k → (r : Rich) → ((d : List ℕ) → rich_of s d r ≡ rich_type (type_in s t)) → resolution_of s c (Ok r) ≡ o
  unfolding descend_by
  path_resolved h r is = ap Resolution.PathResolution.resolved (is c) ∙ remaining_over (string_of plain) c (λ ws. nested (descend (type_in s t) ws)) o n at (omega arith) l.there

  pub path_small : Bytes s → (r : Rich) → ((d : List ℕ) → rich_of s d r ≡ rich_type (type_in s t)) → Small (rich_of s c r)
  path_small bytes r is = rw (is c) (type_small s bytes t l.stands)

  module _ (h : k < end) where
    opened : StringsLeft plain c (λ ws. nested (descend (type_in s t) ws)) o n at
    opened = strings_left plain c (λ ws. nested (descend (type_in s t) ws)) o n at (omega arith) l.there

    pub segment_inside : at + 1 + get_or c at 0 ≤ length c
    segment_inside = opened.inside

    module _ (y : Found) (inner : FindsFields s (fields_of (type_in s t)) y) where
      pub path_non_record : y ≡ None → resolution_of s c (Err (Unresolved.NonRecord at)) ≡ o
      unfolding descend_by
      path_non_record e =
          let i : fields_of (type_in s t) ≡ none = sym inner.value ∙ rw e in
          rw i at opened.same

      module _ (f : ℕ) (e : y ≡ Some f) where
        pub path_fields : are_fields s f ≡ true
        path_fields = rw e at inner.stands

        module _ (w : List ℕ) (is_w : w ≡ word_at c at) (z : Found) (finds : Finds s (find_attribute (fields_in s f) w) z) where
          onward : (d : Option Declared) → find_attribute (fields_in s f) w ≡ d → nested (maybe (Resolution.PathEnd.missing (word_at c at)) (λ u. descend u opened.others) d) ≡ o
          unfolding descend_by
          onward d g =
              let i : fields_of (type_in s t) ≡ some (fields_in s f) = sym inner.value ∙ rw e in
              let j : find_attribute (fields_in s f) (word_at c at) ≡ d = rw (← is_w) g in
              rw (i, j) at opened.same

          pub nested_missing : z ≡ None → resolution_of s c (Err (Unresolved.NestedMissing at)) ≡ o
          nested_missing g = onward none (sym finds.value ∙ rw g)

          pub path_on : (u : ℕ) → z ≡ Some u → (m : ℕ) → m ≡ at + 1 + get_or c at 0 → Left s c o (end - (k + 1)) m u
          path_on u g m place =
              let less : end - (k + 1) ≡ n - 1 = omega arith in
              record {
                stands = rw g at finds.stands;
                there = record { left = opened.others; there = rw (less, place) opened.there; same = onward (some (type_in s u)) (sym finds.value ∙ rw g) };
              }

pub ruleset along = (rules, head_missing, head_found, path_resolved, path_small, segment_inside, path_non_record, path_fields, nested_missing, path_on)

-- A path's first segment, and those behind it.
module _ (c : List ℕ) (path : Row) (are : are_segments c path ≡ true) (h : 0 < path.count) where
  pub first_segment : StringsLeft plain c (λ ws. ws) (segments_in c path) path.count path.at
  first_segment = strings_left plain c (λ ws. ws) (segments_in c path) path.count path.at h (remaining_all (string_of plain) c (λ ws. ws) path.count path.at are)

  pub first_inside : path.at + 1 + get_or c path.at 0 ≤ length c
  first_inside = first_segment.inside

  pub first_behind : (m : ℕ) → m ≡ path.at + 1 + get_or c path.at 0 → Behind c path (record { count = path.count - 1; at = m })
  first_behind m e =
      record {
        stands = rw e first_segment.there.stands;
        value = rw e (ap (λ (ws : List (List ℕ)). word_at c path.at ∷ ws) first_segment.there.value ∙ first_segment.same);
      }

pub no_segments : (c : List ℕ) (path : Row) → are_segments c path ≡ true → path.count ≤ 0 → [] ≡ segments_in c path
no_segments c path are h =
    remaining_over (string_of plain) c (λ ws. ws) (segments_in c path) path.count path.at h (remaining_all (string_of plain) c (λ ws. ws) path.count path.at are)

-- A path is split at its first segment.
module _ (c : List ℕ) (path : Row) (are : are_segments c path ≡ true) where
  pub split_none : path.count ≡ 0 → segments_in c path ≡ []
  split_none e = sym (no_segments c path are (omega arith))

  module _ (h : path.count ≡ 0 → ⊥) (m : ℕ) (e : m ≡ path.at + 1 + get_or c path.at 0) where
    behind : Behind c path (record { count = path.count - 1; at = m })
    behind = first_behind c path are (omega arith) m e

    pub split_stands : are_segments c (record { count = path.count - 1; at = m }) ≡ true
    split_stands = behind.stands

    pub split_value : word_at c path.at ∷ segments_in c (record { count = path.count - 1; at = m }) ≡ segments_in c path
    split_value = behind.value

pub ruleset splitting = (rules, first_inside, split_none, split_stands, split_value)

pub unsplit : (c : List ℕ) (path : Row) (x : code.Option Headed) → Splits c path x → x ≡ None → segments_in c path ≡ []
unsplit c path x splits e = rw e at splits

-- A path into a context.
module _ (s c : List ℕ) (t : ℕ) (path : Row) (are : are_segments c path ≡ true) where
  pub context_empty : path.count ≡ 0 → resolution_of s c (Err Unresolved.HeadMissing) ≡ context_path (type_in s t) (segments_in c path)
  unfolding context_path_by
  context_empty e = rw (← no_segments c path are (omega arith))

  module _ (y : Found) (inner : FindsFields s (fields_of (type_in s t)) y) where
    pub context_plain : (path.count ≡ 0 → ⊥) → y ≡ None → resolution_of s c (Err Unresolved.HeadMissing) ≡ context_path (type_in s t) (segments_in c path)
    unfolding context_path_by
    context_plain h e =
        let i : fields_of (type_in s t) ≡ none = sym inner.value ∙ rw e in
        rw (← (first_segment c path are (omega arith)).same, i)

    pub context_fields : (f : ℕ) → y ≡ Some f → are_fields s f ≡ true
    context_fields f e = rw e at inner.stands

    pub context_record : (f : ℕ) → y ≡ Some f → (rest : Row) → Behind c path rest → (r : PathResolution) → resolution_of s c r ≡ resolve_in (fields_in s f) (word_at c path.at) (segments_in c rest) → resolution_of s c r ≡ context_path (type_in s t) (segments_in c path)
    unfolding context_path_by
    context_record f e rest b r is =
        let i : fields_of (type_in s t) ≡ some (fields_in s f) = sym inner.value ∙ rw e in
        rw (← b.value, i) is

-- The same of a path that is split.
module _ (s c : List ℕ) (t : ℕ) (path : Row) where
  pub split_empty : (x : code.Option Headed) → Splits c path x → x ≡ None → resolution_of s c (Err Unresolved.HeadMissing) ≡ context_path (type_in s t) (segments_in c path)
  unfolding context_path_by
  split_empty x splits e = rw (unsplit c path x splits e)

  module _ (headed : Headed) (split : Split c path headed) (y : Found) (inner : FindsFields s (fields_of (type_in s t)) y) where
    pub split_plain : y ≡ None → resolution_of s c (Err Unresolved.HeadMissing) ≡ context_path (type_in s t) (segments_in c path)
    unfolding context_path_by
    split_plain e =
        let i : fields_of (type_in s t) ≡ none = sym inner.value ∙ rw e in
        rw (← split.value, i)

    pub split_fields : (f : ℕ) → y ≡ Some f → are_fields s f ≡ true
    split_fields f e = rw e at inner.stands

    pub split_record : (f : ℕ) → y ≡ Some f → (r : PathResolution) → resolution_of s headed.rest.bytes.now r ≡ resolve_in (fields_in s f) (word_at headed.rest.bytes.now headed.head) (segments_in headed.rest.bytes.now headed.rest.segments) → resolution_of s c r ≡ context_path (type_in s t) (segments_in c path)
    unfolding context_path_by
    split_record f e r is =
        let i : fields_of (type_in s t) ≡ some (fields_in s f) = sym inner.value ∙ rw e in
        rw (← split.value, i) (rw split.bytes at is)

pub ruleset contexts = (rules, split_empty, split_plain, split_fields, split_record)

-- The type at its end.
pub leaf_resolved : (e : PathResolution) (t : Rich) → e ≡ Ok t → Some t ≡ leaf_of e
leaf_resolved e t i = rw i

module _ (s c : List ℕ) where
  pub leaf_type : (e : PathResolution) → typed_of s c (leaf_of e) ≡ type_at_end (resolution_of s c e)
  leaf_type (Ok t) = refl
  leaf_type (Err Unresolved.HeadMissing) = refl
  leaf_type (Err (Unresolved.NestedMissing p)) = refl
  leaf_type (Err (Unresolved.NonRecord p)) = refl

  pub context_typed : (a t : ℕ) → Standing (is_type s) (type_in s) (action_in s a).context t → (path : Row) (e : PathResolution) → resolution_of s c e ≡ context_path (type_in s t) (segments_in c path) → (r : Typed) → r ≡ leaf_of e → typed_of s c r ≡ context_type (some (action_in s a)) (segments_in c path)
  unfolding context_type_by
  context_typed a t st path e is r i = rw i (leaf_type e ∙ ap type_at_end (is ∙ ap (λ (d : Declared). context_path d (segments_in c path)) st.value))

  leaf_small : (e : PathResolution) → small_resolution (resolution_of s c e) → small_type (typed_of s c (leaf_of e))
  leaf_small (Ok t) h = h
  leaf_small (Err Unresolved.HeadMissing) h = h
  leaf_small (Err (Unresolved.NestedMissing p)) h = h
  leaf_small (Err (Unresolved.NonRecord p)) h = h

  pub context_small : (e : PathResolution) → small_resolution (resolution_of s c e) → (r : Typed) → r ≡ leaf_of e → small_type (typed_of s c r)
  context_small e h r i = rw i (leaf_small e h)

-- the code takes the type by `ok`
leaf_ok : (e : PathResolution) → result_ok e ≡ leaf_of e
leaf_ok (Ok t) = refl
leaf_ok (Err r) = go r
  where
    go : (r : Unresolved) → None ≡ leaf_of (Err r)
    go Unresolved.HeadMissing = refl
    go (Unresolved.NestedMissing p) = refl
    go (Unresolved.NonRecord p) = refl

module _ (s c : List ℕ) where
  pub context_taken : (a t : ℕ) → Standing (is_type s) (type_in s) (action_in s a).context t → (path : Row) (e : PathResolution) → resolution_of s c e ≡ context_path (type_in s t) (segments_in c path) → (r : Typed) → r ≡ result_ok e → typed_of s c r ≡ context_type (some (action_in s a)) (segments_in c path)
  context_taken a t st path e is r i = context_typed s c a t st path e is r (i ∙ leaf_ok e)

  pub taken_small : (e : PathResolution) → small_resolution (resolution_of s c e) → (r : Typed) → r ≡ result_ok e → small_type (typed_of s c r)
  taken_small e h r i = context_small s c e h r (i ∙ leaf_ok e)

pub ruleset ends = (rules, context_taken, taken_small)
