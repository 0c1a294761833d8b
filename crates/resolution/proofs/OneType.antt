-- A path on one entity type. Assumes nothing.
use mathlib.Core.Path.{◌≡◌, refl, sym, ap, ◌∙◌}
use mathlib.Core.Bool.{Bool, true, false, cond, ◌||◌}
use mathlib.Core.List.{List, [], ◌∷◌}
use mathlib.Core.Option.{Option, none, some}
use Prim.Native.Nat.{ℕ}
use native.Mathlib.Omega.{arith}
use borrow.Author.Rules.{rules}
use Rattle.std.specs.Prelude.{Ok, Err}
use Rattle.names.specs.Lists.{maybe}
use Rattle.names.specs.Names.{same}
use Rattle.names.specs.Read.{word_at}
use Rattle.names.specs.Text.{text}
use Rattle.types.specs.Meaning.{layered, rich_of}
use Rattle.types.specs.Laws.Texts.{layers_in, tag_in, Small}
use Rattle.types.specs.declared.Rich.{Rich}
use Rattle.types.specs.declared.Base.TheVariants as Base
use Rattle.types.specs.declared.Scalar.TheVariants as Scalar
use Rattle.schema.specs.Schema.{Declared, Attributes, EntityType}
use Rattle.schema.specs.Find.{find_attribute}
use Rattle.schema.specs.Places.{are_fields, fields_in, entity_in, Standing}
use Rattle.names.specs.declared.Row.{Row}
use Rattle.resolution.specs.Resolution as Resolution
use Rattle.resolution.specs.Resolution.{head_missing, nested_missing, nested, descend, resolve_in_by, resolve_in, projection, unattributed, on_entity_by, on_entity}
use Rattle.resolution.specs.Places.{are_segments, segments_in, resolution_of, end_of, small_resolution, small_end}
use Rattle.resolution.specs.declared.Unresolved.{Unresolved}
use Rattle.resolution.specs.Coded.{PathResolution}
use Rattle.resolution.specs.declared.Failure.{Failure}
use Rattle.resolution.specs.Coded.{PathEnd}
use Rattle.resolution.specs.Laws.Segments.{first_segment, no_segments}

-- `id` and `type`
module _ (name : List ℕ) (b : Bool) (is_b : b ≡ same name (105 ∷ 100 ∷ [])) where
  pub part_id : b ≡ true → true ≡ (same name (text "id") || same name (text "type"))
  unfolding text
  part_id e = rw (← is_b, e)

  pub part_type : b ≡ false → (r : Bool) → r ≡ same name (116 ∷ 121 ∷ 112 ∷ 101 ∷ []) → r ≡ (same name (text "id") || same name (text "type"))
  unfolding text
  part_type e r is = rw (← is_b, e) is

-- Where the head is no attribute.
module _ (c : List ℕ) (head : ℕ) (rest : Row) (are : are_segments c rest ≡ true) (w : List ℕ) (is_w : w ≡ word_at c head) (b : Bool) (is_b : b ≡ (same w (text "id") || same w (text "type"))) where
  abbrev Ends : PathEnd → Type 0
  Ends r = (s : List ℕ) → end_of s c r ≡ unattributed (word_at c head) (segments_in c rest)

  tested : (d : Bool) → b ≡ d → (same (word_at c head) (text "id") || same (word_at c head) (text "type")) ≡ d
  tested d e = rw (← is_w) (sym is_b ∙ e)

  pub part_missing : b ≡ false → Ends (Err (Failure.Missing head))
  unfolding unattributed
  part_missing e s = rw (tested false e)

  pub part_alone : b ≡ true → rest.count ≡ 0 → Ends (Ok (record { layers = 0; base = Base.Plain Scalar.String }))
  unfolding unattributed projection layered
  part_alone e z s = rw (tested true e, ← no_segments c rest are (omega arith))

  pub part_nested : b ≡ true → (rest.count ≡ 0 → ⊥) → Ends (Err (Failure.NonRecord rest.at))
  unfolding unattributed projection
  part_nested e z s = rw (tested true e, ← (first_segment c rest are (omega arith)).same)

-- how a path ends on an entity type, by how it ends among its attributes
abbrev on_resolution : Resolution.PathEnd → Resolution.PathResolution → Resolution.PathEnd
on_resolution other (Resolution.PathResolution.resolved t) = Resolution.PathEnd.resolved t
on_resolution other head_missing = other
on_resolution other (nested_missing segment) = Resolution.PathEnd.missing segment
on_resolution other (Resolution.PathResolution.non_record segment) = Resolution.PathEnd.non_record segment

of_nested : (other d : Resolution.PathEnd) → on_resolution other (nested d) ≡ d
of_nested other (Resolution.PathEnd.resolved t) = refl
of_nested other (Resolution.PathEnd.missing segment) = refl
of_nested other (Resolution.PathEnd.non_record segment) = refl

by_resolution : (segment : List ℕ) (rest : List (List ℕ)) (e : EntityType) → on_resolution (unattributed segment rest) (resolve_in e.attributes segment rest) ≡ on_entity segment rest e
unfolding resolve_in_by on_entity_by
by_resolution segment rest e = go (find_attribute e.attributes segment)
  where
    go : (o : Option Declared) → on_resolution (unattributed segment rest) (maybe head_missing (λ t. nested (descend t rest)) o) ≡ maybe (unattributed segment rest) (λ t. descend t rest) o
    go none = refl
    go (some t) = of_nested (unattributed segment rest) (descend t rest)

-- where the head is no attribute, the type is String
part_small : (segment : List ℕ) (rest : List (List ℕ)) → small_end (unattributed segment rest)
unfolding unattributed projection layers_in tag_in
part_small segment rest = go (same segment (text "id") || same segment (text "type")) rest
  where
    go : (b : Bool) (rest : List (List ℕ)) → small_end (cond b (projection segment rest) (Resolution.PathEnd.missing segment))
    go true [] = record { layers = omega arith; tag = omega arith }
    go true (next ∷ others) = omega arith
    go false rest = omega arith

module _ (s c : List ℕ) (a f head : ℕ) (rest : Row) (st : Standing (are_fields s) (fields_in s) (entity_in s a).attributes f) (e : PathResolution) (is : resolution_of s c e ≡ resolve_in (fields_in s f) (word_at c head) (segments_in c rest)) where
  abbrev On : Resolution.PathEnd → Type 0
  On d = d ≡ on_entity (word_at c head) (segments_in c rest) (entity_in s a)

  by : On (on_resolution (unattributed (word_at c head) (segments_in c rest)) (resolution_of s c e))
  by =
      ap (on_resolution (unattributed (word_at c head) (segments_in c rest))) (is ∙ ap (λ (fields : Attributes). resolve_in fields (word_at c head) (segments_in c rest)) st.value)
      ∙ by_resolution (word_at c head) (segments_in c rest) (entity_in s a)

  pub one_resolved : (t : Rich) → e ≡ Ok t → On (end_of s c (Ok t))
  one_resolved t i = rw i at by

  pub one_missing : (p : ℕ) → e ≡ Err (Unresolved.NestedMissing p) → On (end_of s c (Err (Failure.Missing p)))
  one_missing p i = rw i at by

  pub one_plain : (p : ℕ) → e ≡ Err (Unresolved.NonRecord p) → On (end_of s c (Err (Failure.NonRecord p)))
  one_plain p i = rw i at by

  pub one_head : e ≡ (Err Unresolved.HeadMissing) → (r : PathEnd) → ((d : List ℕ) → end_of d c r ≡ unattributed (word_at c head) (segments_in c rest)) → On (end_of s c r)
  one_head i r u = u s ∙ rw i at by

  pub one_small : (t : Rich) → e ≡ Ok t → small_resolution (resolution_of s c e) → Small (rich_of s c t)
  one_small t i h = rw i at h

  pub head_small : (r : PathEnd) → ((d : List ℕ) → end_of d c r ≡ unattributed (word_at c head) (segments_in c rest)) → small_end (end_of s c r)
  head_small r u = rw (u s) (part_small (word_at c head) (segments_in c rest))

pub ruleset own = (rules, part_id, part_type, part_missing, part_alone, part_nested, one_resolved, one_missing, one_plain, one_head, one_small, head_small)
