-- The walk along the attributes of a record. Assumes nothing.
use mathlib.Core.Path.{◌≡◌, refl, sym, ap, ◌∙◌}
use mathlib.Core.Bool.{Bool, true, false, cond}
use mathlib.Core.List.{List}
use mathlib.Core.Option.{Option, none, some}
use Prim.Native.Nat.{ℕ, zero, suc, ◌+◌, ◌-◌, ◌≤◌, ◌<◌}
use native.Mathlib.Numerals.{sub-one}
use native.Mathlib.Omega.{arith}
use lib.ListN.{length, get_or}
use borrow.Author.Rules.{rules}
use Rattle.names.specs.Fields.{got, u8, levels}
use Rattle.names.specs.Names.{plain, same}
use Rattle.names.specs.Read.{ending, word_at}
use Rattle.names.specs.Laws.Readers.{u8_view, string_view, split, accept, is_accepted, has_value, arrives, got_value}
use Rattle.schema.specs.Schema.{Declared, Attributes, nothing, ascending, type_at, attributes, attributes_of}
use Rattle.schema.specs.Find.{find_attribute}
use Rattle.schema.specs.Places.{past_word, is_type, fields_in, are_fields, Finds}
use Rattle.schema.specs.Laws.ByKind.{ascending_string}
use Rattle.std.specs.Prelude.{Ok, Some, None}

-- what is left of a row of attributes, n of them from `at`, answers as the whole row
pub record Left (s name : List ℕ) (o : Option Declared) (n at : ℕ) : Type 0 where
  pub before : Option (List ℕ)
  pub fields : Attributes
  pub place : ℕ
  pub read : attributes_of (type_at levels) n before s at ≡ got fields place
  pub answer : find_attribute fields name ≡ o

-- its first attribute, and the others
pub record First (s name : List ℕ) (o : Option Declared) (n at : ℕ) : Type 0 where
  pub own : List ℕ
  pub inside : past_word s at ≤ length s
  pub declared : Declared
  pub q : ℕ
  pub typed : type_at levels s (past_word s at) ≡ got declared q
  pub others : Attributes
  pub place : ℕ
  pub rest : attributes_of (type_at levels) (n - 1) (some own) s q ≡ got others place
  pub answer : cond (same (word_at s at) name) (some declared) (find_attribute others name) ≡ o

module _ (s name : List ℕ) (o : Option Declared) where
  first : (n at : ℕ) → 0 < n → Left s name o n at → First s name o n at
  unfolding attributes_of find_attribute
  first zero at h l = absurd (omega arith)
  first (suc n) at h l =
      let a = split (ascending plain l.before s at) _ l.read in
      let w = string_view plain s at (ascending_string plain l.before s at a.first) in
      let b = split (type_at levels s a.place) _ a.rest in
      let d = split (attributes_of (type_at levels) n (some a.value) s b.place) _ b.rest in
      record {
        own = a.value;
        inside = rw (← w.place) w.inside;
        declared = b.value;
        q = b.place;
        typed = rw (← w.place) b.first;
        others = d.value;
        place = d.place;
        rest = rw sub-one d.first;
        answer = rw (← w.word) (ap (λ (f : Attributes). find_attribute f name) (got_value d.rest) ∙ l.answer);
      }

  over : (n at : ℕ) → n ≤ 0 → Left s name o n at → Finds s o None
  unfolding attributes_of find_attribute
  over zero at h l = record { value = ap (λ (f : Attributes). find_attribute f name) (got_value l.read) ∙ l.answer; stands = refl }
  over (suc n) at h l = absurd (omega arith)

  pub row_none : (end i at : ℕ) → end ≤ i → Left s name o (end - i) at → Finds s o None
  row_none end i at h l = over (end - i) at (omega arith) l

  module _ (end i at : ℕ) (h : i < end) (l : Left s name o (end - i) at) where
    front : First s name o (end - i) at
    front = first (end - i) at (omega arith) l

    pub row_inside : past_word s at ≤ length s
    row_inside = front.inside

    pub row_typed : (p : ℕ) → p ≡ past_word s at → is_type s p ≡ true
    row_typed p e = rw e (is_accepted front.typed)

    module _ (p : ℕ) (e : p ≡ past_word s at) (w : List ℕ) (is_w : w ≡ word_at s at) (b : Bool) (is_b : b ≡ same w name) where
      typed : type_at levels s p ≡ got front.declared front.q
      typed = ap (type_at levels s) e ∙ front.typed

      pub row_found : b ≡ true → Finds s o (Some p)
      row_found f = record { value = ap some (has_value _ typed) ∙ rw (← is_w, ← is_b, f) at front.answer; stands = is_accepted typed }

      pub row_on : b ≡ false → (m : ℕ) → Ok m ≡ ending (type_at levels s p) → Left s name o (end - (i + 1)) m
      row_on f m g =
          let left : end - (i + 1) ≡ (end - i) - 1 = omega arith in
          rw left (record {
            before = some front.own;
            fields = front.others;
            place = front.place;
            read = rw (arrives typed g refl) front.rest;
            answer = rw (← is_w, ← is_b, f) at front.answer;
          })

module _ (s : List ℕ) (at : ℕ) (are : are_fields s at ≡ true) where
  pub fields_inside : at < length s
  unfolding attributes
  fields_inside = (u8_view s at (split (u8 s at) _ (accept _ are).read).first).0

  pub fields_start : (name : List ℕ) (n : ℕ) → n ≡ get_or s at 0 → Left s name (find_attribute (fields_in s at) name) (n - 0) (at + 1)
  unfolding attributes
  fields_start name n e =
      let a = accept _ are in
      let b = split (u8 s at) _ a.read in
      let v = u8_view s at b.first in
      let all : n - 0 ≡ n = omega arith in
      record {
        before = none;
        fields = a.value;
        place = a.place;
        read = rw (all, e, ← v.1, ← v.2) b.rest;
        answer = ap (λ (f : Attributes). find_attribute f name) (sym (has_value nothing a.read));
      }

pub ruleset lookup = (rules, row_none, row_inside, row_typed, row_found, row_on, fields_inside, fields_start)
