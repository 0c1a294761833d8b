-- The types of words, and of fields of a record. Assumes nothing.
use mathlib.Core.Path.{◌≡◌, sym, ap, ◌∙◌}
use mathlib.Core.Bool.{Bool, true, false}
use mathlib.Core.List.{List, [], ◌∷◌}
use mathlib.Core.Option.{Option, none, some}
use Prim.Native.Nat.{ℕ, ◌+◌, ◌≤◌, ◌<◌}
use native.Mathlib.Omega.{arith}
use borrow.Author.Rules.{rules}
use Rattle.std.specs.Prelude as std
use lib.ListN.{length, get_or}
use Rattle.names.specs.Lists.{maybe}
use Rattle.names.specs.Names.{same, last_of}
use Rattle.names.specs.Read.{word_at, Found}
use Rattle.names.specs.Text.{text}
use Rattle.names.specs.Laws.Walks.{past_end}
use Rattle.types.specs.Types.{Ty, dated, time_type}
use Rattle.types.specs.Meaning.{rich_of, time_of, layered}
use Rattle.types.specs.declared.Source.TheVariants as Source
use Rattle.types.specs.declared.Scalar.{Scalar}
use Rattle.types.specs.declared.Tag.{Tag}
use Rattle.types.specs.declared.Base.TheVariants as Base
use Rattle.types.specs.declared.Rich.{Rich}
use Rattle.schema.specs.Schema.{Declared}
use Rattle.schema.specs.Find.{fields_of, find_attribute, rich_type}
use Rattle.schema.specs.Places.{is_type, type_in, are_fields, fields_in, is_action, action_in, found_in, found_stands, Finds, FindsFields, Standing}
use Rattle.condition.specs.Condition.{path}
use Rattle.nodes.specs.Parts.{segments_in}
use Rattle.resolution.specs.Laws.Sizes.{Bytes, type_small}
use Rattle.terms.specs.Terms.{other_type, word_type_by, word_type, annotation_type_by, field_type_by, field_type, input_type_by, input_type}
use Rattle.terms.specs.Answers.{WordTag, OtherTyped, WordTyped, AnnotationTyped, TypedBy}
use Rattle.terms.specs.declared.Facts.{Facts}
use Rattle.std.specs.Prelude.{Some, None}
use Rattle.resolution.specs.Coded.{Typed}

-- A string as a tag; past the end there is none.
module _ (c : List ℕ) (at : ℕ) where
  pub tag_past : length c ≤ at → WordTag c at (record { source = Source.Condition; at = 0; len = 0 })
  tag_past h = record { value = λ s. rw (← past_end c at h); short = omega arith }

  pub tag_here : (n : ℕ) → n ≡ get_or c at 0 → n < 256 → WordTag c at (record { source = Source.Condition; at = at + 1; len = n })
  tag_here n e h = record { value = λ s. rw e; short = omega arith }

pub ruleset word_tags = (rules, tag_past, tag_here)

abbrev plain_rich : Scalar → Rich
plain_rich a = record { layers = 0; base = Base.Plain a }

-- A word that the published Rust has no type for.
module _ (c : List ℕ) (at : ℕ) (w : List ℕ) (is_w : w ≡ word_at c at) (t : std.Option Scalar) (answer : time_of t ≡ time_type dated w) where
  pub other_time : (a : Scalar) → t ≡ std.Some a → (r : Rich) → r ≡ plain_rich a → OtherTyped c at r
  unfolding other_type layered
  other_time a is r it = rw it (record {
    value = λ s. rw (← is_w, ← answer, is);
    within = record { layers = omega arith; tag = omega arith };
  })

  pub other_entity : t ≡ std.None → (tag : Tag) → WordTag c at tag
      → (r : Rich) → r ≡ record { layers = 0; base = Base.Tagged tag } → OtherTyped c at r
  unfolding other_type layered
  other_entity is tag h r it = rw it (record {
    value = λ s. rw (h.value s, ← is_w, ← answer, is);
    within = record { layers = omega arith; tag = h.short };
  })

pub ruleset other_types = (rules, other_time, other_entity)

-- The words of the language, each where none before it fits; the answer is r.
module _ (c : List ℕ) (at : ℕ) (w : List ℕ) (is_w : w ≡ word_at c at) (r : Rich) where
  scalar_word : (a : Scalar) → ((s : List ℕ) → rich_of s c (plain_rich a) ≡ word_type w)
      → r ≡ plain_rich a → WordTyped c at r
  scalar_word a e it = rw it (record {
    value = λ s. e s ∙ ap word_type is_w;
    within = record { layers = omega arith; tag = omega arith };
  })

  module _ (b₁ : Bool) (e₁ : b₁ ≡ same w (76 ∷ 111 ∷ 110 ∷ 103 ∷ [])) where
    pub word_long : b₁ ≡ true → r ≡ plain_rich Scalar.Long → WordTyped c at r
    unfolding word_type_by text layered
    word_long t = scalar_word Scalar.Long λ s. rw (← e₁, t)

    module _ (n₁ : b₁ ≡ false) (b₂ : Bool) (e₂ : b₂ ≡ same w (83 ∷ 116 ∷ 114 ∷ 105 ∷ 110 ∷ 103 ∷ [])) where
      pub word_string : b₂ ≡ true → r ≡ plain_rich Scalar.String → WordTyped c at r
      unfolding word_type_by text layered
      word_string t = scalar_word Scalar.String λ s. rw (← e₁, n₁, ← e₂, t)

      module _ (n₂ : b₂ ≡ false) (b₃ : Bool) (e₃ : b₃ ≡ same w (66 ∷ 111 ∷ 111 ∷ 108 ∷ [])) where
        pub word_bool : b₃ ≡ true → r ≡ plain_rich Scalar.Bool → WordTyped c at r
        unfolding word_type_by text layered
        word_bool t = scalar_word Scalar.Bool λ s. rw (← e₁, n₁, ← e₂, n₂, ← e₃, t)

        module _ (n₃ : b₃ ≡ false) (b₄ : Bool) (e₄ : b₄ ≡ same w (66 ∷ 111 ∷ 111 ∷ 108 ∷ 101 ∷ 97 ∷ 110 ∷ [])) where
          pub word_boolean : b₄ ≡ true → r ≡ plain_rich Scalar.Bool → WordTyped c at r
          unfolding word_type_by text layered
          word_boolean t = scalar_word Scalar.Bool λ s. rw (← e₁, n₁, ← e₂, n₂, ← e₃, n₃, ← e₄, t)

          module _ (n₄ : b₄ ≡ false) (b₅ : Bool) (e₅ : b₅ ≡ same w (100 ∷ 101 ∷ 99 ∷ 105 ∷ 109 ∷ 97 ∷ 108 ∷ [])) where
            pub word_decimal : b₅ ≡ true → r ≡ plain_rich Scalar.Decimal → WordTyped c at r
            unfolding word_type_by text layered
            word_decimal t = scalar_word Scalar.Decimal λ s. rw (← e₁, n₁, ← e₂, n₂, ← e₃, n₃, ← e₄, n₄, ← e₅, t)

            module _ (n₅ : b₅ ≡ false) (b₆ : Bool) (e₆ : b₆ ≡ same w (68 ∷ 101 ∷ 99 ∷ 105 ∷ 109 ∷ 97 ∷ 108 ∷ [])) where
              pub word-Decimal : b₆ ≡ true → r ≡ plain_rich Scalar.Decimal → WordTyped c at r
              unfolding word_type_by text layered
              word-Decimal t = scalar_word Scalar.Decimal λ s. rw (← e₁, n₁, ← e₂, n₂, ← e₃, n₃, ← e₄, n₄, ← e₅, n₅, ← e₆, t)

              pub word_other : b₆ ≡ false → OtherTyped c at r → WordTyped c at r
              unfolding word_type_by text
              word_other n₆ is = record {
                value = λ s. is.value s ∙ rw (← is_w, ← e₁, n₁, ← e₂, n₂, ← e₃, n₃, ← e₄, n₄, ← e₅, n₅, ← e₆, n₆);
                within = is.within;
              }

pub ruleset word_types = (rules, word_long, word_string, word_bool, word_boolean, word_decimal, word-Decimal, word_other)

-- no type
untyped : (s : List ℕ) (o : Option Ty) → o ≡ none → TypedBy s o None
untyped s o e = record { value = λ c. sym e; small = rw e (omega arith) }

-- what is said of an attribute of a type that is a record
abbrev within : Declared → List ℕ → (Declared → Option Ty) → Option Ty
within t name f = maybe none (λ fields. maybe none f (find_attribute fields name)) (fields_of t)

module _ (s : List ℕ) (t : ℕ) (x : Found) (inner : FindsFields s (fields_of (type_in s t)) x) where
  within_none : (name : List ℕ) (f : Declared → Option Ty) → x ≡ None → within (type_in s t) name f ≡ none
  within_none name f e =
      let i : fields_of (type_in s t) ≡ none = sym inner.value ∙ rw e in
      rw i

  module _ (p : ℕ) (e : x ≡ Some p) where
    is_record : fields_of (type_in s t) ≡ some (fields_in s p)
    is_record = sym inner.value ∙ rw e

    pub fields_stand : are_fields s p ≡ true
    fields_stand = rw e at inner.stands

    module _ (name : List ℕ) (y : Found) (finds : Finds s (find_attribute (fields_in s p) name) y) where
      within_missing : (f : Declared → Option Ty) → y ≡ None → within (type_in s t) name f ≡ none
      within_missing f i =
          let j : find_attribute (fields_in s p) name ≡ none = sym finds.value ∙ rw i in
          rw (is_record, j)

      within_found : (f : Declared → Option Ty) (u : ℕ) → y ≡ Some u → within (type_in s t) name f ≡ f (type_in s u)
      within_found f u i =
          let j : find_attribute (fields_in s p) name ≡ some (type_in s u) = sym finds.value ∙ rw i in
          rw (is_record, j)

-- what was found stands there
pub field_stands : (s : List ℕ) (o : Option Declared) (y : Found) (u : ℕ) → y ≡ Some u → Finds s o y → is_type s u ≡ true
field_stands s o y u e finds = rw e at finds.stands

-- The type of a field.
module _ (s : List ℕ) (t : ℕ) (name : List ℕ) (x : Found) (inner : FindsFields s (fields_of (type_in s t)) x) where
  pub field_none : x ≡ None → TypedBy s (field_type name (type_in s t)) None
  unfolding field_type_by
  field_none e = untyped s _ (within_none s t x inner name (λ u. some (rich_type u)) e)

  module _ (p : ℕ) (e : x ≡ Some p) (y : Found) (finds : Finds s (find_attribute (fields_in s p) name) y) where
    pub field_missing : y ≡ None → TypedBy s (field_type name (type_in s t)) None
    unfolding field_type_by
    field_missing i = untyped s _ (within_missing s t x inner p e name y finds (λ u. some (rich_type u)) i)

    pub field_found : (u : ℕ) → y ≡ Some u → Bytes s → (r : Rich) → ((d : List ℕ) → rich_of s d r ≡ rich_type (type_in s u)) → TypedBy s (field_type name (type_in s t)) (Some r)
    unfolding field_type_by
    field_found u i bytes r is =
        let j = within_found s t x inner p e name y finds (λ v. some (rich_type v)) u i in
        let small = type_small s bytes u (field_stands s _ y u i finds) in
        record { value = λ c. ap some (is c) ∙ sym j; small = rw j small }

-- The type of a field of the input record.
module _ (s : List ℕ) (a at : ℕ) (there : Standing (is_type s) (type_in s) (action_in s a).context at) (x : Found) (inner : FindsFields s (fields_of (type_in s at)) x) where
  input_within : (name : List ℕ) → input_type (some (action_in s a)) name ≡ within (type_in s at) (text "input") (field_type name)
  unfolding input_type_by
  input_within name = ap (λ (t : Declared). within t (text "input") (field_type name)) (sym there.value)

  pub input_none : (name : List ℕ) → x ≡ None → TypedBy s (input_type (some (action_in s a)) name) None
  input_none name e = untyped s _ (input_within name ∙ within_none s at x inner (text "input") (field_type name) e)

  module _ (p : ℕ) (e : x ≡ Some p) (y : Found) (finds : Finds s (find_attribute (fields_in s p) (105 ∷ 110 ∷ 112 ∷ 117 ∷ 116 ∷ [])) y) where
    pub input_missing : (name : List ℕ) → y ≡ None → TypedBy s (input_type (some (action_in s a)) name) None
    unfolding text
    input_missing name i = untyped s _ (input_within name ∙ within_missing s at x inner p e (text "input") y finds (field_type name) i)

    pub input_found : (name : List ℕ) (u : ℕ) → y ≡ Some u → (r : Typed) → TypedBy s (field_type name (type_in s u)) r → TypedBy s (input_type (some (action_in s a)) name) r
    unfolding text
    input_found name u i r h =
        let j = input_within name ∙ within_found s at x inner p e (text "input") y finds (field_type name) u i in
        record { value = λ c. h.value c ∙ sym j; small = rw j h.small }

pub ruleset fields = (rules, fields_stand, field_stands, field_none, field_missing, field_found, input_none, input_missing, input_found)

-- A declared action stands in the schema.
pub action_stands : (s : List ℕ) (action : Found) (p : ℕ) → action ≡ Some p → found_stands (is_action s) action ≡ true → is_action s p ≡ true
action_stands s action p e h = rw e at h

-- A name that no binder declares, under a declared action and under none.
module _ (s : List ℕ) (facts : Facts) (name : List ℕ) where
  pub free_undeclared : facts.action ≡ None → TypedBy s (input_type (found_in (action_in s) facts.action) name) None
  unfolding input_type_by
  free_undeclared e = untyped s _ (rw e)

  pub free_declared : (p : ℕ) → facts.action ≡ Some p → (r : Typed) → TypedBy s (input_type (some (action_in s p)) name) r → TypedBy s (input_type (found_in (action_in s) facts.action) name) r
  free_declared p e r h = rw e h

pub ruleset free_names = (rules, action_stands, free_undeclared, free_declared)

-- An annotation is typed by its last segment.
pub last_typed : (c : List ℕ) (at p : ℕ) → word_at c p ≡ last_of (segments_in c at) → (r : Rich) → WordTyped c p r → AnnotationTyped c (path (segments_in c at)) r
unfolding annotation_type_by
last_typed c at p e r h = record { value = λ s. h.value s ∙ ap word_type e; within = h.within }

pub ruleset annotations = (rules, last_typed)
