-- What version 3 brought: each exit of its readers. Assumes nothing.
use mathlib.Core.Path.{◌≡◌, refl, ◌∙◌}
use mathlib.Core.Bool.{Bool}
use mathlib.Core.List.{List}
use Prim.Native.Nat.{ℕ, ◌+◌, ◌-◌, ◌≤◌, ◌<◌}
use native.Mathlib.Omega.{arith}
use borrow.Author.Rules.{rules}
use borrow.Author.Tests.{le-leb, lt-leb}
use lib.ListN.{length}
use Rattle.names.specs.Fields.{Reader, u64, i64, string_of, choose}
use Rattle.names.specs.Names.{plain}
use Rattle.names.specs.Class.{class_of}
use Rattle.names.specs.declared.Class.TheVariants.{Plain, PathName}
use Rattle.names.specs.Read.{ending, Read}
use Rattle.names.specs.Laws.Readers.{bytes-end, bytes_got, last, stops, goes}
use Rattle.decimal.specs.Decimal.{decimal_text}
use Rattle.condition.specs.Condition.{Condition, Term, given, truth, arith_op, entity_fields, term_kinds}
use Rattle.condition.specs.Places.{choice_up_to}
use Rattle.condition.specs.Kinds.{term_kind_number}
use Rattle.condition.specs.declared.kind.TermKind.{TermKind}
use Rattle.condition.proofs.Choosing.{truth_read, op_read}
use Rattle.std.specs.Prelude.{Ok, Err}
use Rattle.names.specs.declared.refusal.Refusal.{Refusal}
use Rattle.names.specs.declared.refusal.Refusal.TheVariants.{Cut}

module _ (s : List ℕ) (at : ℕ) where
  pub word_none : length s ≤ at → Err Cut ≡ ending (i64 s at)
  unfolding i64 u64 ending
  word_none h = rw (bytes-end s at 8 (omega arith))

  pub word_short : at < length s → length s - at < 8 → Err Cut ≡ ending (i64 s at)
  unfolding i64 u64 ending
  word_short h k = rw (bytes-end s at 8 (omega arith))

  pub word_got : at < length s → 8 ≤ length s - at → Ok (at + 8) ≡ ending (i64 s at)
  unfolding i64 u64 ending
  word_got h k = rw (bytes_got s at 8 (omega arith))

-- a field that version 3 brought
module _ {A : Type 0} (v : ℕ) (f : Reader A) (s : List ℕ) (at : ℕ) where
  unsaid : v ≤ 2 → Ok at ≡ ending (given v f s at)
  unfolding given ending
  unsaid h = rw (le-leb v 2 h)

  said : 2 < v → (x : Read) → x ≡ ending (f s at) → x ≡ ending (given v f s at)
  unfolding given
  said h x e = rw (lt-leb v 2 h) (e ∙ last _ _)

-- an entity or a literal is one of five
one_of_five : (P : TermKind → Type 0) → P TermKind.Entity → P TermKind.Integer → P TermKind.Decimal → P TermKind.String → P TermKind.Bool → (k : TermKind) → term_kind_number k ≤ 5 → P k
one_of_five P e i d w b TermKind.Entity h = e
one_of_five P e i d w b TermKind.Integer h = i
one_of_five P e i d w b TermKind.Decimal h = d
one_of_five P e i d w b TermKind.String h = w
one_of_five P e i d w b TermKind.Bool h = b
one_of_five P e i d w b TermKind.ContextField h = absurd (omega arith)
one_of_five P e i d w b TermKind.ScopeField h = absurd (omega arith)
one_of_five P e i d w b TermKind.Var h = absurd (omega arith)
one_of_five P e i d w b TermKind.Wildcard h = absurd (omega arith)
one_of_five P e i d w b TermKind.Array h = absurd (omega arith)
one_of_five P e i d w b TermKind.Aggregate h = absurd (omega arith)
one_of_five P e i d w b TermKind.Arith h = absurd (omega arith)
one_of_five P e i d w b TermKind.ParamRef h = absurd (omega arith)
one_of_five P e i d w b TermKind.BinderRef h = absurd (omega arith)

module _ (v : ℕ) (s : List ℕ) (at : ℕ) where
  pub op_unsaid : v ≤ 2 → Ok at ≡ ending (given v arith_op s at)
  op_unsaid = unsaid v arith_op s at

  pub op_said : 2 < v → (x : Read) → x ≡ ending (choice_up_to 2 s at) → x ≡ ending (given v arith_op s at)
  op_said h x e = said v arith_op s at h x (op_read s at x e)

  -- an entity
  module _ (x : Read) (is : x ≡ ending (string_of (class_of PathName) s at)) where
    pub name_stops : (r : Refusal) → x ≡ Err r → Err r ≡ ending (entity_fields v s at)
    unfolding entity_fields
    name_stops r e = stops _ _ e is

    pub name_alone : v ≤ 2 → (n : ℕ) → x ≡ Ok n → Ok n ≡ ending (entity_fields v s at)
    unfolding entity_fields
    name_alone h n e = goes _ _ e is λ _ _. unsaid v (string_of plain) s n h ∙ last _ _

    pub id_read : 2 < v → (n : ℕ) → x ≡ Ok n → (y : Read) → y ≡ ending (string_of (class_of Plain) s n) → y ≡ ending (entity_fields v s at)
    unfolding entity_fields
    id_read h n e y is' = goes _ _ e is λ _ _. said v (string_of plain) s n h y is' ∙ last _ _

  -- by the kind
  module _ (k : TermKind) (x : Read) where
    pub entity_kind : k ≡ TermKind.Entity → x ≡ ending (entity_fields v s at) → (c : Reader Condition) (t : Bool → Reader Term) (b : Bool) → x ≡ ending (choose (term_kind_number k) (term_kinds v c t b) s at)
    unfolding choose term_kinds
    entity_kind i e c t b = rw i (e ∙ last _ _)

    module _ (later : 2 < v) where
      pub integer_kind : k ≡ TermKind.Integer → x ≡ ending (i64 s at) → (c : Reader Condition) (t : Bool → Reader Term) (b : Bool) → x ≡ ending (choose (term_kind_number k) (term_kinds v c t b) s at)
      unfolding choose term_kinds
      integer_kind i e c t b = rw i (said v i64 s at later x e ∙ last _ _)

      pub decimal_kind : k ≡ TermKind.Decimal → x ≡ ending (decimal_text s at) → (c : Reader Condition) (t : Bool → Reader Term) (b : Bool) → x ≡ ending (choose (term_kind_number k) (term_kinds v c t b) s at)
      unfolding choose term_kinds
      decimal_kind i e c t b = rw i (said v decimal_text s at later x e ∙ last _ _)

      pub string_kind : k ≡ TermKind.String → x ≡ ending (string_of (class_of Plain) s at) → (c : Reader Condition) (t : Bool → Reader Term) (b : Bool) → x ≡ ending (choose (term_kind_number k) (term_kinds v c t b) s at)
      unfolding choose term_kinds
      string_kind i e c t b = rw i (said v (string_of plain) s at later x e ∙ last _ _)

      pub bool_kind : term_kind_number k ≤ 5 → (k ≡ TermKind.Entity → ⊥) → (k ≡ TermKind.Integer → ⊥) → (k ≡ TermKind.Decimal → ⊥) → (k ≡ TermKind.String → ⊥) → x ≡ ending (choice_up_to 1 s at) → (c : Reader Condition) (t : Bool → Reader Term) (b : Bool) → x ≡ ending (choose (term_kind_number k) (term_kinds v c t b) s at)
      unfolding choose term_kinds
      bool_kind h m i j n e c t b =
          one_of_five (λ j. (j ≡ TermKind.Entity → ⊥) → (j ≡ TermKind.Integer → ⊥) → (j ≡ TermKind.Decimal → ⊥) → (j ≡ TermKind.String → ⊥) → x ≡ ending (choose (term_kind_number j) (term_kinds v c t b) s at))
          (λ m i j n. absurd (m refl)) (λ m i j n. absurd (i refl)) (λ m i j n. absurd (j refl)) (λ m i j n. absurd (n refl))
          (λ m i j n. said v truth s at later x (truth_read s at x e) ∙ last _ _)
          k h m i j n

  pub no_value : (k : TermKind) → term_kind_number k ≤ 5 → (k ≡ TermKind.Entity → ⊥) → v ≤ 2 → (c : Reader Condition) (t : Bool → Reader Term) (b : Bool) → Ok at ≡ ending (choose (term_kind_number k) (term_kinds v c t b) s at)
  unfolding choose term_kinds
  no_value k h m before c t b =
      one_of_five (λ j. (j ≡ TermKind.Entity → ⊥) → Ok at ≡ ending (choose (term_kind_number j) (term_kinds v c t b) s at))
      (λ m. absurd (m refl)) (λ m. unsaid v i64 s at before ∙ last _ _) (λ m. unsaid v decimal_text s at before ∙ last _ _) (λ m. unsaid v (string_of plain) s at before ∙ last _ _)
      (λ m. unsaid v truth s at before ∙ last _ _)
      k h m

pub ruleset words = (rules, word_none, word_short, word_got)

pub ruleset ops = (rules, op_unsaid, op_said)

pub ruleset entities = (rules, name_alone, name_stops, id_read)

pub ruleset values = (rules, entity_kind, no_value, integer_kind, decimal_kind, string_kind, bool_kind)
