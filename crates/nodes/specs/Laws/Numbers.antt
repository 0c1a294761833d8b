-- The code's kinds and their numbers: no two kinds have one number. Assumes nothing.
use Rattle.std.specs.Prelude.{◌≡◌, refl, [], ◌∷◌, ℕ, get_or}
use Rattle.std.proofs.Common.{sym, ap, ◌∙◌}
use Rattle.condition.specs.declared.kind.Kind.{Kind}
use Rattle.condition.specs.declared.kind.Kind.TheVariants as kinds
use Rattle.nodes.specs.declared.TermKind.{TermKind}
use Rattle.nodes.specs.declared.TermKind.TheVariants as terms
use Rattle.condition.specs.declared.kind.AggregateKind.{AggregateKind}
use Rattle.condition.specs.declared.kind.AggregateKind.TheVariants as aggregates
use Rattle.nodes.specs.Kinds.{kind_number, term_kind_number, aggregate_kind_number}

-- the kind of a number; 0 is none
abbrev kind_of_number : ℕ → Kind
kind_of_number n =
    get_or
    (kinds.Call ∷ kinds.And ∷ kinds.Or ∷ kinds.Not ∷ kinds.Formerly ∷ kinds.Previous ∷ kinds.Since ∷ kinds.Predicate ∷ kinds.Comparison ∷ kinds.Exists ∷ kinds.Timepoint ∷ kinds.Call ∷ kinds.SigilRef ∷ kinds.Refine ∷ [])
    n kinds.Call

kind_again : (k : Kind) → kind_of_number (kind_number k) ≡ k
kind_again kinds.And = refl
kind_again kinds.Or = refl
kind_again kinds.Not = refl
kind_again kinds.Formerly = refl
kind_again kinds.Previous = refl
kind_again kinds.Since = refl
kind_again kinds.Predicate = refl
kind_again kinds.Comparison = refl
kind_again kinds.Exists = refl
kind_again kinds.Timepoint = refl
kind_again kinds.Call = refl
kind_again kinds.SigilRef = refl
kind_again kinds.Refine = refl

pub same_kind : (k j : Kind) → kind_number k ≡ kind_number j → k ≡ j
same_kind k j e = sym (kind_again k) ∙ ap kind_of_number e ∙ kind_again j

abbrev term_kind_of_number : ℕ → TermKind
term_kind_of_number n =
    get_or
    (terms.Sigil ∷ terms.Entity ∷ terms.Integer ∷ terms.Decimal ∷ terms.String ∷ terms.Bool ∷ terms.ContextField ∷ terms.ScopeField ∷ terms.Var ∷ terms.Wildcard ∷ terms.Array ∷ terms.Aggregate ∷ terms.Arith ∷ [])
    n terms.Sigil

term_kind_again : (k : TermKind) → term_kind_of_number (term_kind_number k) ≡ k
term_kind_again terms.Entity = refl
term_kind_again terms.Integer = refl
term_kind_again terms.Decimal = refl
term_kind_again terms.String = refl
term_kind_again terms.Bool = refl
term_kind_again terms.ContextField = refl
term_kind_again terms.ScopeField = refl
term_kind_again terms.Var = refl
term_kind_again terms.Wildcard = refl
term_kind_again terms.Array = refl
term_kind_again terms.Aggregate = refl
term_kind_again terms.Arith = refl
term_kind_again terms.Sigil = refl

pub same_term_kind : (k j : TermKind) → term_kind_number k ≡ term_kind_number j → k ≡ j
same_term_kind k j e = sym (term_kind_again k) ∙ ap term_kind_of_number e ∙ term_kind_again j

abbrev aggregate_kind_of_number : ℕ → AggregateKind
aggregate_kind_of_number n = get_or (aggregates.Call ∷ aggregates.Sum ∷ aggregates.Count ∷ []) n aggregates.Call

aggregate_kind_again : (k : AggregateKind) → aggregate_kind_of_number (aggregate_kind_number k) ≡ k
aggregate_kind_again aggregates.Sum = refl
aggregate_kind_again aggregates.Count = refl
aggregate_kind_again aggregates.Call = refl

pub same_aggregate_kind : (k j : AggregateKind) → aggregate_kind_number k ≡ aggregate_kind_number j → k ≡ j
same_aggregate_kind k j e = sym (aggregate_kind_again k) ∙ ap aggregate_kind_of_number e ∙ aggregate_kind_again j

-- What a `match` of the code passed over is of another number.
module _ (k : Kind) where
  pub not_predicate : (k ≡ kinds.Predicate → ⊥) → kind_number k ≡ 7 → ⊥
  not_predicate h e = h (same_kind k kinds.Predicate e)

  pub not_comparison : (k ≡ kinds.Comparison → ⊥) → kind_number k ≡ 8 → ⊥
  not_comparison h e = h (same_kind k kinds.Comparison e)

  pub not_exists : (k ≡ kinds.Exists → ⊥) → kind_number k ≡ 9 → ⊥
  not_exists h e = h (same_kind k kinds.Exists e)

  pub not_timepoint : (k ≡ kinds.Timepoint → ⊥) → kind_number k ≡ 10 → ⊥
  not_timepoint h e = h (same_kind k kinds.Timepoint e)

module _ (k : TermKind) where
  pub not_entity : (k ≡ terms.Entity → ⊥) → term_kind_number k ≡ 1 → ⊥
  not_entity h e = h (same_term_kind k terms.Entity e)

  pub not_integer : (k ≡ terms.Integer → ⊥) → term_kind_number k ≡ 2 → ⊥
  not_integer h e = h (same_term_kind k terms.Integer e)

  pub not_decimal : (k ≡ terms.Decimal → ⊥) → term_kind_number k ≡ 3 → ⊥
  not_decimal h e = h (same_term_kind k terms.Decimal e)

  pub not_string : (k ≡ terms.String → ⊥) → term_kind_number k ≡ 4 → ⊥
  not_string h e = h (same_term_kind k terms.String e)

  pub not_bool : (k ≡ terms.Bool → ⊥) → term_kind_number k ≡ 5 → ⊥
  not_bool h e = h (same_term_kind k terms.Bool e)

  pub not_context_field : (k ≡ terms.ContextField → ⊥) → term_kind_number k ≡ 6 → ⊥
  not_context_field h e = h (same_term_kind k terms.ContextField e)

  pub not_scope_field : (k ≡ terms.ScopeField → ⊥) → term_kind_number k ≡ 7 → ⊥
  not_scope_field h e = h (same_term_kind k terms.ScopeField e)

  pub not_var : (k ≡ terms.Var → ⊥) → term_kind_number k ≡ 8 → ⊥
  not_var h e = h (same_term_kind k terms.Var e)

  pub not_wildcard : (k ≡ terms.Wildcard → ⊥) → term_kind_number k ≡ 9 → ⊥
  not_wildcard h e = h (same_term_kind k terms.Wildcard e)

  pub not_array : (k ≡ terms.Array → ⊥) → term_kind_number k ≡ 10 → ⊥
  not_array h e = h (same_term_kind k terms.Array e)

  pub not_aggregate : (k ≡ terms.Aggregate → ⊥) → term_kind_number k ≡ 11 → ⊥
  not_aggregate h e = h (same_term_kind k terms.Aggregate e)

  pub not_arith : (k ≡ terms.Arith → ⊥) → term_kind_number k ≡ 12 → ⊥
  not_arith h e = h (same_term_kind k terms.Arith e)

module _ (k : AggregateKind) where
  pub not_sum : (k ≡ aggregates.Sum → ⊥) → aggregate_kind_number k ≡ 1 → ⊥
  not_sum h e = h (same_aggregate_kind k aggregates.Sum e)

  pub not_call : (k ≡ aggregates.Call → ⊥) → aggregate_kind_number k ≡ 3 → ⊥
  not_call h e = h (same_aggregate_kind k aggregates.Call e)

pub ruleset passed_over = (not_predicate, not_comparison, not_exists, not_timepoint, not_entity, not_integer, not_decimal, not_string, not_bool, not_context_field, not_scope_field, not_var, not_wildcard, not_array, not_aggregate, not_arith, not_sum, not_call)
