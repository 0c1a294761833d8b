-- A binder is a slot and an annotation; what an annotation binds. Assumes nothing.
use Rattle.std.specs.Prelude.{◌≡◌, refl, Bool, true, false, cond, List, ℕ, ◌+◌, ◌<◌, eqb, length, get_or}
use Rattle.std.proofs.Math.Path.{sym, ap}
use Rattle.std.proofs.Common.{◌∙◌, rules, eq-eqb, ne_eqb, eqb-true}
use Rattle.std.proofs.lemmas.Bool.{false≢true, eqb-false}
use Rattle.std.proofs.Math.Option.{none, some}
use native.Mathlib.Omega.{arith}
use Rattle.names.specs.Fields.{got, ◌>>=◌, pure, u8, string_of, each, counted, many}
use Rattle.names.specs.Names.{identifier}
use Rattle.names.specs.Read.{word_at}
use Rattle.names.specs.Laws.Readers.{split, u8_view, u8_got, is_accepted, has_value, got_value}
use Rattle.nodes.specs.declared.Bound.TheVariants.{Segments, Timepoint, Nothing}
use Rattle.condition.specs.Condition.{Slot, named, Annotation, timepoint, path, Binder, slot, annotation, binder}
use Rattle.condition.specs.Walk.{has_name}
use Rattle.condition.specs.Places.{is_slot, slot_in, is_annotation, annotation_in, is_binder, binder_in}
use Rattle.nodes.specs.Looked.{Skipped}
use Rattle.nodes.specs.Parts.{segments_in, BoundBy, name_in}
use Rattle.nodes.specs.Laws.Pieces.{slot_index, slot_name, slot_param, slot_binder}
use Rattle.nodes.specs.Laws.Opens.{Stands, stood, ends_at}

-- What is bound, by cases.
module _ (s : List ℕ) where
  pub says_nothing : BoundBy s none Nothing
  says_nothing = record { stands = tt; value = refl }

-- An annotation.
module _ (s : List ℕ) (at : ℕ) (acc : is_annotation s at ≡ true) where
  annotation_stands : Stands (annotation s at) (annotation_in s at)
  unfolding annotation_in
  annotation_stands = stood _ _ acc

  record AnnotationView (a : Annotation) (n : ℕ) : Type 0 where
    inside : at < length s
    read : cond (eqb (get_or s at 0) 0) (pure timepoint) (many (λ w. w) (each (string_of identifier)) (get_or s at 0) none >>= λ w. pure (path w)) s (at + 1) ≡ got a n

  annotation_view : AnnotationView (annotation_in s at) annotation_stands.end
  unfolding annotation
  annotation_view =
      let a = split (u8 s at) _ annotation_stands.read in
      let u = u8_view s at a.first in
      record { inside = u.0; read = rw (← u.1, ← u.2) a.rest }

  pub annotation_index : at < length s
  annotation_index = annotation_view.inside

  pub bound_timepoint : get_or s at 0 ≡ 0 → BoundBy s (some (annotation_in s at)) Timepoint
  bound_timepoint e = record { stands = tt; value = ap some (got_value (rw (eq-eqb _ _ e) at annotation_view.read)) }

  pub bound_segments : (get_or s at 0 ≡ 0 → ⊥) → BoundBy s (some (annotation_in s at)) (Segments at)
  unfolding segments_in counted
  bound_segments h =
      let v = annotation_view in
      let r = rw (ne_eqb (get_or s at 0) 0 h) at v.read in
      let b = split (many (λ w. w) (each (string_of identifier)) (get_or s at 0) none s (at + 1)) _ r in
      let e : counted (each (string_of identifier)) s at ≡ got b.value b.place = rw (u8_got s at v.inside) b.first in
      record { stands = record { stands = is_accepted e; some = omega arith }; value = ap some (ap path (has_value _ e) ∙ got_value b.rest) }

-- A binder: a slot and an annotation.
module _ (s : List ℕ) (at : ℕ) (acc : is_binder s at ≡ true) where
  record BinderView (b : Binder) : Type 0 where
    place : Slot
    middle : ℕ
    says : Annotation
    end : ℕ
    names : slot s at ≡ got place middle
    tells : annotation s middle ≡ got says end
    whole : b ≡ record { slot = place; annotation = says }

  binder_view : BinderView (binder_in s at)
  unfolding binder binder_in
  binder_view =
      let w = stood _ (binder s at) acc in
      let a = split (slot s at) _ w.read in
      let b = split (annotation s a.place) _ a.rest in
      record { place = a.value; middle = a.place; says = b.value; end = b.place; names = a.first; tells = b.first; whole = sym (got_value b.rest) }

  pub binder_slot : is_slot s at ≡ true
  binder_slot = is_accepted binder_view.names

  pub binder_annotation : (m : ℕ) → Skipped (slot s at) at m → is_annotation s m ≡ true
  binder_annotation m z = is_accepted (ap (annotation s) (ends_at binder_view.names z.ends) ∙ binder_view.tells)

  pub slot_is : (binder_in s at).slot ≡ slot_in s at
  unfolding slot_in
  slot_is = ap (λ (b : Binder). b.slot) binder_view.whole ∙ sym (has_value _ binder_view.names)

  pub annotation-is : (m : ℕ) → Skipped (slot s at) at m → (binder_in s at).annotation ≡ annotation_in s m
  unfolding annotation_in
  annotation-is m z =
      let e = ap (annotation s) (ends_at binder_view.names z.ends) ∙ binder_view.tells in
      ap (λ (b : Binder). b.annotation) binder_view.whole ∙ sym (has_value _ e)

pub ruleset at_binder = (rules, annotation_index, bound_timepoint, bound_segments)

-- ---- whether a binder has a name

module _ (s : List ℕ) (at : ℕ) (acc : is_binder s at ≡ true) where
  pub binder_index : at < length s
  binder_index = slot_index s at (binder_slot s at acc)

  first_byte : get_or s at 0 ≡ 0 → (binder_in s at).slot ≡ named (name_in s at)
  unfolding name_in
  first_byte e = slot_is s at acc ∙ (slot_name s at (binder_slot s at acc) e).value

  pub name_there : get_or s at 0 ≡ 0 → true ≡ has_name (binder_in s at).slot
  name_there e = sym (ap has_name (first_byte e))

  pub name_missing : (get_or s at 0 ≡ 0 → ⊥) → false ≡ has_name (binder_in s at).slot
  name_missing h = sym (ap has_name (slot_is s at acc) ∙ go (eqb (get_or s at 0) 1) refl)
    where
      go : (b : Bool) → eqb (get_or s at 0) 1 ≡ b → has_name (slot_in s at) ≡ false
      go true e = ap has_name (slot_param s at (binder_slot s at acc) (eqb-true _ _ e)).value
      go false e = ap has_name (slot_binder s at (binder_slot s at acc) h (eqb-false _ _ e)).value

  pub own_slot : has_name (binder_in s at).slot ≡ true → (binder_in s at).slot ≡ named (name_in s at)
  own_slot h = go (eqb (get_or s at 0) 0) refl
    where
      go : (b : Bool) → eqb (get_or s at 0) 0 ≡ b → (binder_in s at).slot ≡ named (name_in s at)
      go true e = first_byte (eqb-true _ _ e)
      go false e = absurd (false≢true (name_missing (eqb-false _ _ e) ∙ h))

pub name-is : (s w : List ℕ) (at : ℕ) → w ≡ word_at s (at + 1) → w ≡ name_in s at
unfolding name_in
name-is s w at e = e

pub ruleset naming = (rules, binder_index, name_there, name_missing, name-is)
