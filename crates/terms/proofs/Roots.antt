-- The types of scope terms. Assumes nothing.
use mathlib.Core.Path.{◌≡◌, refl, sym, ap, ◌∙◌}
use mathlib.Core.Bool.{Bool, true, false}
use mathlib.Core.List.{List, [], ◌∷◌}
use mathlib.Core.Option.{Option, none}
use Prim.Native.Nat.{ℕ}
use native.Mathlib.Omega.{arith}
use borrow.Author.Rules.{rules}
use Rattle.names.specs.Fields.{string_of}
use Rattle.names.specs.Names.{same, path_name}
use Rattle.names.specs.Read.{word_at, Listed}
use Rattle.names.specs.Text.{text}
use Rattle.types.specs.Types.{Ty}
use Rattle.types.specs.declared.Rich.{Rich}
use Rattle.schema.specs.Places.{schema_in, action_in}
use Rattle.names.specs.declared.Row.{Row}
use Rattle.targets.specs.Targets.{Narrowing}
use Rattle.targets.specs.Places.{narrowed}
use Rattle.resolution.specs.Resolution as Resolution
use Rattle.resolution.specs.Resolution.{scope_type, scope_path}
use Rattle.resolution.specs.Passes.{scope_of, briefly}
use Rattle.resolution.specs.Places.{types_in, are_segments, segments_in, typed_of, small_type, small_path}
use Rattle.resolution.specs.Laws.Segments.{no_segments, first_segment, unsplit}
use Rattle.resolution.specs.Paths.{path_of, Split, Splits}
use Rattle.resolution.specs.declared.path.Headed.{Headed}
use Rattle.std.specs.Prelude as code
use Rattle.resolution.specs.declared.ScopePath.{ScopePath}
use Rattle.terms.specs.Terms.{if_resolved, side_type_by, side_type, root_type}
use Rattle.terms.specs.Facts.{facts_in}
use Rattle.terms.specs.Answers.{TypeOf, resolved_of}
use Rattle.terms.specs.declared.Facts.{Facts}
use Rattle.resolution.specs.Coded.{Typed}
use Rattle.std.specs.Prelude.{Some, None}

-- no type
pub nothing_typed : (s c : List ℕ) {o : Option Ty} → o ≡ none → TypeOf s c o None
nothing_typed s c e = record { value = sym e; small = omega arith }

-- the end of a path
pub end_resolved : (e : ScopePath) (t : Rich) → e ≡ ScopePath.Resolved t → Some t ≡ resolved_of e
end_resolved e t i = rw i

pub ruleset path_ends = (rules, end_resolved)

brief-end : (p : Resolution.ScopePath) → if_resolved (briefly p) ≡ if_resolved p
unfolding briefly
brief-end (Resolution.ScopePath.resolved t) = refl
brief-end (Resolution.ScopePath.missing seg es) = refl
brief-end (Resolution.ScopePath.non_record seg) = refl
brief-end (Resolution.ambiguous ts) = refl
brief-end Resolution.unknown = refl

module _ (s c : List ℕ) where
  end_type : (e : ScopePath) → typed_of s c (resolved_of e) ≡ if_resolved (scope_of s c e)
  end_type (ScopePath.Resolved t) = refl
  end_type (ScopePath.Missing p) = refl
  end_type (ScopePath.NonRecord p) = refl
  end_type ScopePath.Ambiguous = refl
  end_type ScopePath.Unknown = refl

  end_small : (e : ScopePath) → small_path (scope_of s c e) → small_type (typed_of s c (resolved_of e))
  end_small (ScopePath.Resolved t) h = h
  end_small (ScopePath.Missing p) h = h
  end_small (ScopePath.NonRecord p) h = h
  end_small ScopePath.Ambiguous h = h
  end_small ScopePath.Unknown h = h

  -- One side.
  module _ (n : List ℕ) (x : Option Narrowing) (types : List (List ℕ)) (tail : Row) (are : are_segments c tail ≡ true) where
    pub side_bare : tail.count ≡ 0 → (r : Typed) → ((d : List ℕ) → typed_of s d r ≡ scope_type (schema_in s) x types) → ((d : List ℕ) → small_type (typed_of s d r)) → TypeOf s c (side_type (schema_in s) x types (segments_in c tail)) r
    unfolding side_type_by
    side_bare e r is small = record { value = is c ∙ ap (side_type (schema_in s) x types) (no_segments c tail are (omega arith)); small = small c }

    pub side_path : (tail.count ≡ 0 → ⊥) → (e : ScopePath) → scope_of s c e ≡ briefly (scope_path (schema_in s) x types (segments_in c tail)) → small_path (scope_of s c e) → (r : Typed) → r ≡ resolved_of e → TypeOf s c (side_type (schema_in s) x types (segments_in c tail)) r
    unfolding side_type_by
    side_path h e is small r i =
        let v = first_segment c tail are (omega arith) in
        let j : if_resolved (scope_path (schema_in s) x types (segments_in c tail)) ≡ side_type (schema_in s) x types (segments_in c tail) = rw (← v.same) in
        rw i (record { value = end_type e ∙ ap if_resolved is ∙ brief-end _ ∙ j; small = end_small e small })

pub ruleset one_side = (rules, side_bare, side_path)

-- The root of a path, whose bytes are c; those of the condition are d.
module _ (s d n : List ℕ) (facts : Facts) (a : ℕ) (c : List ℕ) (path : Row) (x : code.Option Headed) (splits : Splits c path x) where
  pub root_none : x ≡ None → TypeOf s c (root_type (facts_in s d n facts) (action_in s a) (segments_in c path)) None
  unfolding root_type
  root_none e = nothing_typed s c (ap (root_type (facts_in s d n facts) (action_in s a)) (unsplit c path x splits e))

  module _ (headed : Headed) (is : x ≡ Some headed) (w : List ℕ) (is_w : w ≡ word_at c headed.head) where
    split : Split c path headed
    split = rw is at splits

    rooted : root_type (facts_in s d n facts) (action_in s a) (segments_in c path) ≡ root_type (facts_in s d n facts) (action_in s a) (w ∷ segments_in c headed.rest.segments)
    rooted = ap (root_type (facts_in s d n facts) (action_in s a)) (sym split.value ∙ ap (λ (v : List ℕ). v ∷ segments_in c headed.rest.segments) (sym is_w))

    -- what is said of the others in their own bytes
    own : (o : List (List ℕ) → Option Ty) (r : Typed) → TypeOf s headed.rest.bytes.now (o (path_of headed.rest)) r → TypeOf s c (o (segments_in c headed.rest.segments)) r
    own o r h = rw split.bytes at h

    module _ (b₁ : Bool) (e₁ : b₁ ≡ same w (112 ∷ 114 ∷ 105 ∷ 110 ∷ 99 ∷ 105 ∷ 112 ∷ 97 ∷ 108 ∷ [])) where
      pub root_principal : b₁ ≡ true → (row : Row) → Listed (string_of path_name) s (action_in s a).principals row.count row.at → (r : Typed) → TypeOf s headed.rest.bytes.now (side_type (schema_in s) (narrowed n facts.principal) (types_in s row) (path_of headed.rest)) r → TypeOf s c (root_type (facts_in s d n facts) (action_in s a) (segments_in c path)) r
      unfolding root_type text
      root_principal t row l r k =
          let h = own (side_type (schema_in s) (narrowed n facts.principal) (types_in s row)) r k in
          record { value = h.value ∙ ap (λ (ws : List (List ℕ)). side_type (schema_in s) (narrowed n facts.principal) ws (segments_in c headed.rest.segments)) l.value ∙ rw (← e₁, t) refl ∙ sym rooted; small = h.small }

      module _ (f : b₁ ≡ false) (b₂ : Bool) (e₂ : b₂ ≡ same w (114 ∷ 101 ∷ 115 ∷ 111 ∷ 117 ∷ 114 ∷ 99 ∷ 101 ∷ [])) where
        pub root_resource : b₂ ≡ true → (row : Row) → Listed (string_of path_name) s (action_in s a).resources row.count row.at → (r : Typed) → TypeOf s headed.rest.bytes.now (side_type (schema_in s) (narrowed n facts.resource) (types_in s row) (path_of headed.rest)) r → TypeOf s c (root_type (facts_in s d n facts) (action_in s a) (segments_in c path)) r
        unfolding root_type text
        root_resource t row l r k =
            let h = own (side_type (schema_in s) (narrowed n facts.resource) (types_in s row)) r k in
            record { value = h.value ∙ ap (λ (ws : List (List ℕ)). side_type (schema_in s) (narrowed n facts.resource) ws (segments_in c headed.rest.segments)) l.value ∙ rw (← e₁, f, ← e₂, t) refl ∙ sym rooted; small = h.small }

        pub root_other : b₂ ≡ false → TypeOf s c (root_type (facts_in s d n facts) (action_in s a) (segments_in c path)) None
        unfolding root_type text
        root_other g =
            let i : root_type (facts_in s d n facts) (action_in s a) (w ∷ segments_in c headed.rest.segments) ≡ none = rw (← e₁, f, ← e₂, g) in
            nothing_typed s c (rooted ∙ i)

pub ruleset roots = (rules, root_none, root_principal, root_resource, root_other)
