-- Accepted types by their first byte. Assumes nothing.
use mathlib.Core.Path.{◌≡◌, refl, sym, ap, ◌∙◌}
use mathlib.Core.Bool.{Bool, true, false}
use mathlib.Core.List.{List}
use mathlib.Core.Option.{none, some}
use Prim.Native.Nat.{ℕ, ◌+◌, ◌<◌}
use native.Mathlib.Omega.{arith}
use borrow.Author.Tests.{leb-true, leb-false}
use lib.Dec.{leb}
use lib.ListN.{length, get_or}
use borrow.Author.Rules.{rules}
use Rattle.names.specs.Fields.{got, Reader, u8, choose, string_of, levels}
use Rattle.names.specs.Names.{path_name}
use Rattle.names.specs.Laws.Readers.{u8_view, split, accept, Accepted, is_accepted, has_value, got_value, Each, each_below, ◌&◌}
use Rattle.schema.specs.Schema.{Declared, Attributes, never, nothing, object, kinds, type_at, attributes}
use Rattle.schema.specs.Places.{type_in, is_type, fields_in, are_fields, FindsFields, KindHere, kind_number, Decodes}
use Rattle.schema.specs.Find.{fields_of}
use Rattle.schema.specs.Laws.ByKind.{choose_above, one_kind}
use Rattle.schema.proofs.Levels.{type_wider, attributes_wider}
use Rattle.names.specs.declared.refusal.Refusal.{Refusal}
use Rattle.schema.specs.declared.kind.TypeKind.{TypeKind}
use Rattle.std.specs.Prelude.{Some, None, Result, Ok, Err}
use Rattle.std.specs.Result.{result_unwrap_or}

-- a type, accepted: its kind, and what follows it
pub record Open (s : List ℕ) (at : ℕ) (t : Declared) (n : ℕ) : Type 0 where
  pub inside : at < length s
  pub known : get_or s at 0 < 11
  pub body : choose (get_or s at 0) (kinds (type_at 31)) s (at + 1) ≡ got t n

pub open_type : (s : List ℕ) (at : ℕ) {t : Declared} {n : ℕ} → type_at levels s at ≡ got t n → Open s at t n
unfolding type_at
open_type s at {t} {n} e =
    let a = split (u8 s at) _ e in
    let v = u8_view s at a.first in
    let b : choose (get_or s at 0) (kinds (type_at 31)) s (at + 1) ≡ got t n = rw (← v.1, ← v.2) a.rest in
    record { inside = v.0; known = go b (leb (get_or s at 0) 10) refl; body = b }
  where
    go : choose (get_or s at 0) (kinds (type_at 31)) s (at + 1) ≡ got t n → (b : Bool) → leb (get_or s at 0) 10 ≡ b → get_or s at 0 < 11
    go e true h = let i = leb-true (get_or s at 0) 10 h in omega arith
    go e false h = let i = choose_above (get_or s at 0) (type_at 31) s (at + 1) (leb-false (get_or s at 0) 10 h) in let z : ◌≡◌ {A = ℕ} 0 1 = cc in absurd (omega arith)

-- a kind that is no record has no attributes
no_fields : (inner : Reader Declared) (s : List ℕ) (at : ℕ) (t : Declared) (n k : ℕ) → k < 11 → (k ≡ 6 → ⊥) → choose k (kinds inner) s at ≡ got t n → fields_of t ≡ none
unfolding choose kinds Each fields_of
no_fields inner s at t n =
    each_below (λ k. (k ≡ 6 → ⊥) → choose k (kinds inner) s at ≡ got t n → fields_of t ≡ none) 11 (
    tt
    & (λ h e. ap fields_of (sym (got_value e)))
    & (λ h e. ap fields_of (sym (got_value e)))
    & (λ h e. ap fields_of (sym (got_value e)))
    & (λ h e. ap fields_of (sym (got_value (split (string_of path_name s at) _ e).rest)))
    & (λ h e. ap fields_of (sym (got_value (split (inner s at) _ e).rest)))
    & (λ h e. ap fields_of (sym (got_value e)))
    & (λ h e. absurd (h refl))
    & (λ h e. ap fields_of (sym (got_value (split (string_of path_name s at) _ e).rest)))
    & (λ h e. ap fields_of (sym (got_value e)))
    & (λ h e. ap fields_of (sym (got_value e)))
    & (λ h e. ap fields_of (sym (got_value e))))

-- a record's attributes
record_fields_lem : (inner : Reader Declared) (s : List ℕ) (at : ℕ) {t : Declared} {n : ℕ} → choose 6 (kinds inner) s at ≡ got t n → Accepted (attributes inner s at)
unfolding choose kinds
record_fields_lem inner s at e = let a = split (attributes inner s at) _ e in record { value = a.value; place = a.place; read = a.first }

record_is : (inner : Reader Declared) (s : List ℕ) (at : ℕ) {t : Declared} {n : ℕ} {f : Attributes} {m : ℕ} → choose 6 (kinds inner) s at ≡ got t n → attributes inner s at ≡ got f m → t ≡ object f
unfolding choose kinds
record_is inner s at e i = got_value (sym (rw i at e))

-- Of the type that stands at a position.
module _ (s : List ℕ) (at : ℕ) (is : is_type s at ≡ true) where
  pub type_opened : (k : ℕ) → k ≡ get_or s at 0 → KindHere s at k
  type_opened k e = record { inside = (open_type s at (accept _ is).read).inside; kind = e }

  pub type_inside : at < length s
  type_inside = (open_type s at (accept _ is).read).inside

  pub other_fields : (k : ℕ) → k ≡ get_or s at 0 → (k ≡ 6 → ⊥) → fields_of (type_in s at) ≡ none
  other_fields k e h =
      let a = accept _ is in
      let v = open_type s at a.read in
      ap fields_of (has_value never a.read) ∙ no_fields (type_at 31) s (at + 1) a.value a.place (get_or s at 0) v.known (λ i. h (e ∙ i)) v.body

  module _ (k : ℕ) (e : k ≡ get_or s at 0) (h : k ≡ 6) where
    at_6 : choose 6 (kinds (type_at 31)) s (at + 1) ≡ got (accept _ is).value (accept _ is).place
    at_6 = rw (sym e ∙ h) at (open_type s at (accept _ is).read).body

    fields : Accepted (attributes (type_at 31) s (at + 1))
    fields = record_fields_lem (type_at 31) s (at + 1) at_6

    fields_wide : attributes (type_at levels) s (at + 1) ≡ got fields.value fields.place
    fields_wide = attributes_wider (type_at 31) (type_at levels) (type_wider 31 levels (omega arith)) s (at + 1) fields.value fields.place fields.read

    pub object_accepted : are_fields s (at + 1) ≡ true
    object_accepted = is_accepted fields_wide

    pub object_fields : fields_of (type_in s at) ≡ some (fields_in s (at + 1))
    unfolding fields_of
    object_fields =
        ap fields_of (has_value never (accept _ is).read ∙ record_is (type_at 31) s (at + 1) at_6 fields.read)
        ∙ ap some (sym (has_value nothing fields_wide))

-- The kind of the type that stands at a position, by what its first byte is decoded to.
module _ (s : List ℕ) (at : ℕ) (is : is_type s at ≡ true) where
  pub kind_opened : (r : Result TypeKind Refusal) → Decodes (get_or s at 0) r → (k : TypeKind) → k ≡ result_unwrap_or r TypeKind.Never → KindHere s at (kind_number k)
  kind_opened (Ok k) d k' e = type_opened s at is (kind_number k') (ap kind_number e ∙ d)
  kind_opened (Err r) d k e = let v = open_type s at (accept _ is).read in absurd (omega (arith, d.1, v.known))

pub ruleset kinds_here = (rules, type_inside, kind_opened)

-- The attributes of a type, by its kind.
module _ (s : List ℕ) (at : ℕ) (is : is_type s at ≡ true) (k : TypeKind) (op : KindHere s at (kind_number k)) where
  pub a_record : k ≡ TypeKind.Record → FindsFields s (fields_of (type_in s at)) (Some (at + 1))
  a_record h =
      let e = ap kind_number h in
      record { value = sym (object_fields s at is (kind_number k) op.kind e); stands = object_accepted s at is (kind_number k) op.kind e }

  pub no_record : (k ≡ TypeKind.Record → ⊥) → FindsFields s (fields_of (type_in s at)) None
  no_record h = record { value = sym (other_fields s at is (kind_number k) op.kind (λ e. h (one_kind TypeKind.Record k e))); stands = refl }

pub ruleset record_fields = (rules, a_record, no_record)
