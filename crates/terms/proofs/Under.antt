-- The types of terms under the facts of a target. Assumes nothing.
use mathlib.Core.Path.{◌≡◌, refl, sym, ap, ◌∙◌}
use mathlib.Core.List.{List}
use mathlib.Core.Option.{Option, none, some}
use Prim.Native.Nat.{ℕ}
use native.Mathlib.Omega.{arith}
use borrow.Author.Rules.{rules}
use Rattle.names.specs.Read.{word_at, Found}
use Rattle.types.specs.Laws.Texts.{numbers_small}
use Rattle.types.specs.Meaning.{layered}
use Rattle.types.specs.declared.Scalar.TheVariants as Scalar
use Rattle.types.specs.declared.Rich.{Rich}
use Rattle.schema.specs.Places.{action_in, found_in}
use Rattle.targets.specs.Places.{narrowed, targets_in}
use Rattle.targets.specs.declared.Narrowed.{Narrowed}
use Rattle.condition.specs.Condition.{Term, entity, literal, context_field, scope_field, var, wildcard, array, aggregate, sigil, timepoint, path}
use Rattle.condition.specs.Condition as tree
use Rattle.condition.specs.Walk.{last_named}
use Rattle.walk.specs.Enclosing.{around_at, binding_in}
use Rattle.nodes.specs.Kinds.{term_kind_of, term_kind_number}
use Rattle.nodes.specs.Laws.Numbers.{not_context_field, not_scope_field, not_var}
use Rattle.nodes.specs.Offsets.{term_part}
use Rattle.nodes.specs.declared.TermKind.{TermKind}
use Rattle.condition.specs.Places.{term_here, is_term, term_in, path_in}
use Rattle.nodes.specs.Laws.Pieces.{context_path, scope_path, context_inside, scope_inside, var_inside}
use Rattle.nodes.specs.Looked.{TermKindHere}
use Rattle.nodes.specs.Parts.{segments_in, SegmentsHere, BoundBy}
use Rattle.nodes.specs.declared.Bound.{Bound}
use Rattle.resolution.specs.Resolution.{context_type_by, context_type}
use Rattle.resolution.specs.Places.{typed_of, small_type}
use Rattle.resolution.specs.Paths.{path_of}
use Rattle.resolution.specs.declared.path.Path.{Path}
use Rattle.terms.specs.Terms.{facts_of, annotation_type_by, input_type, var_type, term_type, root_type, scope_field_type}
use Rattle.terms.specs.Terms as Terms
use Rattle.terms.specs.Bounds.{Within}
use Rattle.terms.specs.Facts.{facts_in, FactsOf, NameTyped}
use Rattle.terms.specs.Literals.{plain, TypedAt}
use Rattle.terms.specs.Answers.{AnnotationTyped, TypedBy, TypeOf, SegmentsOf}
use Rattle.terms.specs.declared.Common.{Common}
use Rattle.terms.specs.declared.Facts.{Facts}
use Rattle.terms.specs.declared.Element.{Element}
use Rattle.terms.proofs.Fields.{action_stands}
use Rattle.terms.proofs.Roots.{nothing_typed}
use Rattle.std.specs.Prelude.{true, Some, None}
use Rattle.resolution.specs.Coded.{Typed}

-- the facts of a target
pub facts_made : (n : List ℕ) (found : Found) (common : Common) (p r : Narrowed) → narrowed n p ≡ (targets_in n).scope.principal → narrowed n r ≡ (targets_in n).scope.resource → FactsOf n found common (record { action = found; principal = p; resource = r; common = common; node = 0 })
facts_made n found common p r e f = record { action = refl; shared = refl; scope = rw (e, f); node = refl }

pub ruleset making = (rules, facts_made)

-- Under a declared action, and under none.
module _ (s c : List ℕ) (at : ℕ) where
  pub context_undeclared : (action : Found) → action ≡ None → TypeOf s c (context_type (found_in (action_in s) action) (path_in c at)) None
  unfolding context_type_by
  context_undeclared action e = nothing_typed s c (rw e)

  pub scope_undeclared : (facts : Facts) (n : List ℕ) → facts.action ≡ None → TypeOf s c (scope_field_type (facts_in s c n facts) (path_in c at)) None
  unfolding scope_field_type
  scope_undeclared facts n e = nothing_typed s c (rw e)

  module _ (p : ℕ) (there : Path) (l : SegmentsOf c at there) (r : Typed) where
    pub context_declared : (action : Found) → action ≡ Some p → typed_of s there.bytes.now r ≡ context_type (some (action_in s p)) (path_of there) → small_type (typed_of s there.bytes.now r) → TypeOf s c (context_type (found_in (action_in s) action) (path_in c at)) r
    context_declared action e h small = let own = rw l.bytes at h in record { value = rw (e, ← l.value) own; small = rw l.bytes at small }

    pub scope_declared : (facts : Facts) → facts.action ≡ Some p → (n : List ℕ) → TypeOf s there.bytes.now (root_type (facts_in s c n facts) (action_in s p) (path_of there)) r → TypeOf s c (scope_field_type (facts_in s c n facts) (path_in c at)) r
    unfolding scope_field_type
    scope_declared facts e n h = let own = rw l.bytes at h in record { value = own.value ∙ ap (root_type (facts_in s c n facts) (action_in s p)) l.value ∙ rw e; small = own.small }

pub ruleset paths = (rules, context_undeclared, scope_undeclared, action_stands, context_declared, scope_declared)

-- A term that needs no facts.
plain_same : (f : Option Terms.Facts) (t : Term) → (term_kind_of t ≡ 6 → ⊥) → (term_kind_of t ≡ 7 → ⊥) → (term_kind_of t ≡ 8 → ⊥) → term_type none t ≡ term_type f t
unfolding term_type
plain_same f (entity m) a b d = refl
plain_same f (literal l) a b d = refl
plain_same f (context_field p) a b d = absurd (a refl)
plain_same f (scope_field p) a b d = absurd (b refl)
plain_same f (var v) a b d = absurd (d refl)
plain_same f wildcard a b d = refl
plain_same f (array ts) a b d = refl
plain_same f (aggregate x) a b d = refl
plain_same f (tree.arith op l r) a b d = refl
plain_same f sigil a b d = refl

more : {r : Typed} → Within 0 r → Within 32 r
more h = record { layers = omega (arith, h.layers); tag = h.tag }

within_small : (s c : List ℕ) (r : Typed) → Within 32 r → small_type (typed_of s c r)
within_small s c (Some t) h = numbers_small s c t h.layers h.tag
within_small s c None h = omega arith

pub plain_typed : (s c : List ℕ) (at : ℕ) (e : Element) → TypedAt s c (term_here c at) (term_type none (term_in c at)) 32 e → TypeOf s c (term_type none (term_in c at)) e.typed
plain_typed s c at e h = record { value = h.value; small = within_small s c e.typed h.within }

pub ruleset plainly = (rules, plain_typed)

-- A name, by what its last binder says.
module _ (s c : List ℕ) (facts : Facts) (name : List ℕ) (b : Bound) (says : BoundBy c (last_named name (around_at (binding_in facts.common.binding) c facts.node)) b) where
  pub bound_stands : (p : ℕ) → b ≡ Bound.Segments p → SegmentsHere c p
  bound_stands p e = rw e at says.stands

  pub name_annotated : (p : ℕ) → b ≡ Bound.Segments p → (r : Rich) → AnnotationTyped c (path (segments_in c p)) r → NameTyped s c facts name (Some r)
  unfolding var_type
  name_annotated p e r h =
      let i : last_named name (around_at (binding_in facts.common.binding) c facts.node) ≡ some (path (segments_in c p)) = sym says.value ∙ rw e in
      record { value = λ n. ap some (h.value s) ∙ rw i; small = within_small s c (Some r) (more h.within) }

  pub name_timepoint : b ≡ Bound.Timepoint
      → (r : Rich) → Some r ≡ plain Scalar.Timepoint → NameTyped s c facts name (Some r)
  unfolding var_type annotation_type_by layered
  name_timepoint e r it =
      let i : last_named name (around_at (binding_in facts.common.binding) c facts.node) ≡ some timepoint = sym says.value ∙ rw e in
      rw it (record {
        value = λ n. rw i;
        small = within_small s c (plain Scalar.Timepoint) (record { layers = omega arith; tag = omega arith });
      })

  pub name_free : b ≡ Bound.Nothing → (r : Typed) → TypedBy s (input_type (found_in (action_in s) facts.action) name) r → NameTyped s c facts name r
  unfolding var_type
  name_free e r h =
      let i : last_named name (around_at (binding_in facts.common.binding) c facts.node) ≡ none = sym says.value ∙ rw e in
      record { value = λ n. h.value c ∙ rw i; small = rw (h.value c) h.small }

pub ruleset bindings = (rules, bound_stands, name_annotated, name_timepoint, name_free)

-- A term by its kind.
module _ (s c n : List ℕ) (facts : Facts) (at : ℕ) (kind : TermKind) (o : TermKindHere c at (term_kind_number kind)) (r : Typed) where
  module _ (acc : is_term c at ≡ true) (p : ℕ) (place : p ≡ term_part c at) where
    pub term_context : kind ≡ TermKind.ContextField → TypeOf s c (context_type (found_in (action_in s) facts.action) (path_in c p)) r → TypeOf s c (term_type (some (facts_in s c n facts)) (term_in c at)) r
    unfolding term_type
    term_context e t =
        let h = context_inside c at acc p place (term_kind_number kind) o (ap term_kind_number e) in
        record { value = t.value ∙ rw h.value; small = t.small }

    pub term_scope : kind ≡ TermKind.ScopeField → TypeOf s c (scope_field_type (facts_in s c n facts) (path_in c p)) r → TypeOf s c (term_type (some (facts_in s c n facts)) (term_in c at)) r
    unfolding term_type
    term_scope e t =
        let h = scope_inside c at acc p place (term_kind_number kind) o (ap term_kind_number e) in
        record { value = t.value ∙ rw h.value; small = t.small }

    pub term_var : kind ≡ TermKind.Var → (w : List ℕ) → w ≡ word_at c p → NameTyped s c facts w r → TypeOf s c (term_type (some (facts_in s c n facts)) (term_in c at)) r
    unfolding term_type
    term_var e w is t =
        let h = var_inside c at acc p place (term_kind_number kind) o (ap term_kind_number e) in
        record { value = t.value n ∙ rw (h, is); small = t.small }

  pub term_plain : (kind ≡ TermKind.ContextField → ⊥) → (kind ≡ TermKind.ScopeField → ⊥) → (kind ≡ TermKind.Var → ⊥) → TypeOf s c (term_type none (term_in c at)) r → TypeOf s c (term_type (some (facts_in s c n facts)) (term_in c at)) r
  term_plain a b d t = record {
    value = t.value ∙ plain_same (some (facts_in s c n facts)) (term_in c at) (λ e. not_context_field kind a (o.kind ∙ e)) (λ e. not_scope_field kind b (o.kind ∙ e)) (λ e. not_var kind d (o.kind ∙ e));
    small = t.small;
  }

pub ruleset by_kind = (rules, context_path, scope_path, term_context, term_scope, term_var, term_plain)
