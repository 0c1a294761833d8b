-- The kinds of conditions, terms and aggregates, the byte that one of a kind begins with, and what a byte stands for.
use Rattle.std.specs.Prelude.{ℕ, ◌<◌, ◌≡◌, Result, MatchResult}
use Rattle.names.specs.declared.refusal.Refusal.{Refusal}
use Rattle.condition.specs.declared.kind.Kind.{Kind}
use Rattle.condition.specs.declared.kind.TermKind.{TermKind}
use Rattle.condition.specs.declared.kind.AggregateKind.{AggregateKind}

abbrev pub kind_number : Kind → ℕ
kind_number Kind.And = 1
kind_number Kind.Or = 2
kind_number Kind.Not = 3
kind_number Kind.Formerly = 4
kind_number Kind.Previous = 5
kind_number Kind.Since = 6
kind_number Kind.Predicate = 7
kind_number Kind.Comparison = 8
kind_number Kind.Exists = 9
kind_number Kind.Timepoint = 10
kind_number Kind.Call = 11
kind_number Kind.SigilRef = 12
kind_number Kind.Refine = 13

abbrev pub term_kind_number : TermKind → ℕ
term_kind_number TermKind.Entity = 1
term_kind_number TermKind.Integer = 2
term_kind_number TermKind.Decimal = 3
term_kind_number TermKind.String = 4
term_kind_number TermKind.Bool = 5
term_kind_number TermKind.ContextField = 6
term_kind_number TermKind.ScopeField = 7
term_kind_number TermKind.Var = 8
term_kind_number TermKind.Wildcard = 9
term_kind_number TermKind.Array = 10
term_kind_number TermKind.Aggregate = 11
term_kind_number TermKind.Arith = 12
term_kind_number TermKind.ParamRef = 13
term_kind_number TermKind.BinderRef = 14

abbrev pub aggregate_kind_number : AggregateKind → ℕ
aggregate_kind_number AggregateKind.Sum = 1
aggregate_kind_number AggregateKind.Count = 2
aggregate_kind_number AggregateKind.Call = 3

-- what a byte stands for where kinds are numbered from 1 to a last one: a kind, or none, which is refused
abbrev pub Decodes : {K : Type 0} → (K → ℕ) → ℕ → ℕ → Result K Refusal → Type 0
Decodes number last byte r = MatchResult r (λ kind. number kind ≡ byte) (λ refusal. (refusal ≡ Refusal.UndefinedChoice) × (0 < byte → last < byte))
