-- What the words `datetime` and `duration` change in the answers of Check and Lookup: nothing, where no extension type of the schema and no annotation of
-- the condition has one of them. The rules without them are the same definitions by the words of the published Rust (`published`), and those with them
-- are what the code does (`dated`). The definition of Sums asks for no type, and so is the same in both. `proofs/Times.antt` proves it.
use Rattle.std.specs.Prelude.{ℕ, ◌≡◌, Bool, true, ◌&&◌, ◌||◌, not, List}
use Rattle.std.proofs.Math.Option.{some}
use Rattle.names.specs.Fields.{Reader, either, whole}
use Rattle.names.specs.Lists.{every}
use Rattle.names.specs.Names.{same, simple_name, last_of}
use Rattle.names.specs.Text.{text}
use Rattle.types.specs.Types.{Ty, published, dated, is_numeric, are_ordered}
use Rattle.schema.specs.Schema.{Schema, schema_record, Declared, Attributes, nothing, attribute, long, string, bool, extension, set, any_set, object, entity, several_entities, any_entity, never}
use Rattle.condition.specs.Condition.{Condition, Term, Annotation, timepoint, path, condition_record}
use Rattle.condition.specs.Walk.{binders}
use Rattle.terms.specs.Terms.{Facts, term_type}
use Rattle.typecheck.specs.Check.{check_with_by}
use Rattle.lookup.specs.Lookup.{lookup_by}

unfoldable pub is_time_word : List ℕ → Bool
is_time_word w = same w (text "datetime") || same w (text "duration")

-- no extension type in a declared one, and in a record's attributes, has such a simple name
unfoldable mutual
  pub no_times_in : Declared → Bool
  no_times_in long = true
  no_times_in string = true
  no_times_in bool = true
  no_times_in (extension name) = not (is_time_word (simple_name name))
  no_times_in (set t) = no_times_in t
  no_times_in any_set = true
  no_times_in (object fields) = no_times_among fields
  no_times_in (entity name) = true
  no_times_in several_entities = true
  no_times_in any_entity = true
  no_times_in never = true

  pub no_times_among : Attributes → Bool
  no_times_among nothing = true
  no_times_among (attribute name t rest) = no_times_in t && no_times_among rest

-- nor in a whole schema
unfoldable pub no_times : Schema → Bool
no_times s = every (λ e. no_times_among e.attributes) s.entities && every (λ a. no_times_in a.context) s.actions

-- the last segment of an annotation is none of the two words
unfoldable pub no_time_named : Annotation → Bool
no_time_named timepoint = true
no_time_named (path segments) = not (is_time_word (last_of segments))

-- nor that of any binder that the walk of a condition passes
unfoldable pub no_times_declared : Condition → Bool
no_times_declared c = every (λ b. no_time_named b.annotation) (binders c)

-- what is read from a record, if it is accepted, passes a test
abbrev pub Reads : {A : Type 0} → Reader A → (A → Bool) → List ℕ → Type 0
Reads reader test bytes = either (λ r. true) test (whole reader bytes) ≡ true

pub record AsBefore : Type 0 where
  -- every answer, visit and byte of a check, for all records that are accepted or refused, all rules and every buffer
  pub checks : (rules : ℕ) (schema_bytes condition_bytes target_bytes buffer : List ℕ) → Reads schema_record no_times schema_bytes → Reads condition_record no_times_declared condition_bytes
      → check_with_by dated rules schema_bytes condition_bytes target_bytes buffer ≡ check_with_by published rules schema_bytes condition_bytes target_bytes buffer
  -- and of a lookup
  pub lookups : (schema_bytes target_bytes query_bytes buffer : List ℕ) → Reads schema_record no_times schema_bytes → lookup_by dated schema_bytes target_bytes query_bytes buffer ≡ lookup_by published schema_bytes target_bytes query_bytes buffer
  -- by the words of the published Rust no operand is a datetime or a duration, so that order wants two numbers there, as it did
  pub order : (f : Facts) → f.vocabulary ≡ published → (l : Term) (t u : Ty) → term_type (some f) l ≡ some t → are_ordered t u ≡ (is_numeric t && is_numeric u)
