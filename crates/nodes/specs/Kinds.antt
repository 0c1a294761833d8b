-- The kinds of conditions, terms, aggregates and operators by document 01's numbers. Of kinds that the tree does not tell apart, the least.
use Rattle.std.specs.Prelude.{ℕ, Bool, cond, ◌||◌, ◌&&◌, eqb, leb}
pub use Rattle.condition.specs.Kinds.{kind_number, aggregate_kind_number}
use Rattle.condition.specs.Kinds as read
use Rattle.condition.specs.declared.kind.TermKind as read_kinds
use Rattle.nodes.specs.declared.TermKind.{TermKind}
use Rattle.nodes.specs.declared.TermKind.TheVariants as terms
use Rattle.condition.specs.Condition.{Span, Condition, Term, Aggregate, Literal, Operator, Window, unsaid, One, negation, formerly, previous, refine, Two, and, or, since, integer, decimal, string, bool, le, lt, ge, gt, eq, not_eq, one, two, predicate, comparison, exists, tp, opaque, entity, literal, context_field, scope_field, var, wildcard, array, aggregate, arith, sigil, sum, count, call}

abbrev pub one_number : One → ℕ
one_number negation = 3
one_number (formerly w) = 4
one_number (previous w) = 5
one_number refine = 13

abbrev pub two_number : Two → ℕ
two_number and = 1
two_number or = 2
two_number (since w) = 6

-- 11 Call and SigilRef (12); the others each their own
abbrev pub kind_of : Condition → ℕ
kind_of (one k span c) = one_number k
kind_of (two k span l r) = two_number k
kind_of (predicate span own ns act args) = 7
kind_of (comparison span op l r) = 8
kind_of (exists span b c) = 9
kind_of (tp span s) = 10
kind_of (opaque span) = 11

abbrev pub span_of : Condition → Span
span_of (one k span c) = span
span_of (two k span l r) = span
span_of (predicate span own ns act args) = span
span_of (comparison span op l r) = span
span_of (exists span b c) = span
span_of (tp span s) = span
span_of (opaque span) = span

-- the window of a Formerly, a Previous, a Since; of another condition none
abbrev pub one_window : One → Window
one_window negation = unsaid
one_window (formerly w) = w
one_window (previous w) = w
one_window refine = unsaid

abbrev pub two_window : Two → Window
two_window and = unsaid
two_window or = unsaid
two_window (since w) = w

abbrev pub window_of : Condition → Window
window_of (one k span c) = one_window k
window_of (two k span l r) = two_window k
window_of (predicate span own ns act args) = unsaid
window_of (comparison span op l r) = unsaid
window_of (exists span b c) = unsaid
window_of (tp span s) = unsaid
window_of (opaque span) = unsaid

-- a predicate's own span; of another condition, its span
abbrev pub own_span_of : Condition → Span
own_span_of (one k span c) = span
own_span_of (two k span l r) = span
own_span_of (predicate span own ns act args) = own
own_span_of (comparison span op l r) = span
own_span_of (exists span b c) = span
own_span_of (tp span s) = span
own_span_of (opaque span) = span

abbrev pub literal_number : Literal → ℕ
literal_number (integer n) = 2
literal_number (decimal n) = 3
literal_number (string w) = 4
literal_number (bool b) = 5

-- 13 ParamRef and BinderRef (14); the others each their own
abbrev pub term_kind_of : Term → ℕ
term_kind_of (entity n) = 1
term_kind_of (literal l) = literal_number l
term_kind_of (context_field p) = 6
term_kind_of (scope_field p) = 7
term_kind_of (var v) = 8
term_kind_of wildcard = 9
term_kind_of (array ts) = 10
term_kind_of (aggregate a) = 11
term_kind_of (arith op l r) = 12
term_kind_of sigil = 13

abbrev pub aggregate_kind_of : Aggregate → ℕ
aggregate_kind_of (sum span s bs body) = 1
aggregate_kind_of (count span bs body) = 2
aggregate_kind_of (call span) = 3

abbrev pub aggregate_span_of : Aggregate → Span
aggregate_span_of (sum span s bs body) = span
aggregate_span_of (count span bs body) = span
aggregate_span_of (call span) = span

-- `Le Lt Ge Gt Eq NotEq` are 0 to 5
abbrev pub operator_number : Operator → ℕ
operator_number le = 0
operator_number lt = 1
operator_number ge = 2
operator_number gt = 3
operator_number eq = 4
operator_number not_eq = 5

-- the kinds with one condition in them, and those with two
abbrev pub one_kind : ℕ → Bool
one_kind k = eqb k 3 || eqb k 4 || eqb k 5 || eqb k 13

abbrev pub two_kind : ℕ → Bool
two_kind k = eqb k 1 || eqb k 2 || eqb k 6

-- the kinds with a window: Formerly, Previous, Since
abbrev pub window_kind : ℕ → Bool
window_kind k = leb 4 k && leb k 6

-- the numbers of the code's kinds of terms; those of conditions and aggregates are the ones that are read
abbrev pub term_kind_number : TermKind → ℕ
term_kind_number terms.Entity = 1
term_kind_number terms.Integer = 2
term_kind_number terms.Decimal = 3
term_kind_number terms.String = 4
term_kind_number terms.Bool = 5
term_kind_number terms.ContextField = 6
term_kind_number terms.ScopeField = 7
term_kind_number terms.Var = 8
term_kind_number terms.Wildcard = 9
term_kind_number terms.Array = 10
term_kind_number terms.Aggregate = 11
term_kind_number terms.Arith = 12
term_kind_number terms.Sigil = 13

-- the number of a kind of terms that is read, which has one kind for each byte
abbrev pub read_kind_number : read_kinds.TermKind → ℕ
read_kind_number = read.term_kind_number

-- the number by which the tree tells a kind of terms apart: that of a ParamRef for a BinderRef (14)
abbrev pub told_apart : ℕ → ℕ
told_apart k = cond (eqb k 14) 13 k
