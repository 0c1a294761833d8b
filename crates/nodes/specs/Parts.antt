-- The parts of what stands at a position of an accepted record, as the code hands them out.
use Rattle.std.specs.Prelude as code
use Rattle.std.specs.Prelude.{◌≡◌, Bool, true, List, [], ◌∷◌, ◌++◌, ℕ, ◌+◌, ◌-◌, ◌≤◌, ◌<◌, get_or, take, drop, Ok, Some, None}
use Rattle.std.proofs.Math.Option.{Option, none, some}
use Rattle.names.specs.Lists.{gather}
use Rattle.names.specs.Fields.{Reader, number, string_of, each, counted}
use Rattle.names.specs.Names.{path_name, identifier}
use Rattle.names.specs.Read.{ending, accepted, value_or, word_at, Listed, is_row, row_in}
use Rattle.nodes.specs.declared.Ends.{Ends}
use Rattle.nodes.specs.declared.ComparisonAt.{ComparisonAt}
use Rattle.nodes.specs.declared.Operands.{Operands}
use Rattle.nodes.specs.declared.PredicateAt.{PredicateAt}
use Rattle.nodes.specs.declared.ArgumentAt.{ArgumentAt}
use Rattle.nodes.specs.declared.Several.{Several}
use Rattle.nodes.specs.declared.SlotAt.{SlotAt}
use Rattle.nodes.specs.declared.SlotAt.TheVariants.{Named, ParamRef, BinderRef}
use Rattle.nodes.specs.declared.WindowAt.{WindowAt}
use Rattle.nodes.specs.declared.WindowAt.TheVariants.{Unsaid, Parameter, Seconds}
use Rattle.nodes.specs.declared.Bound.{Bound}
use Rattle.nodes.specs.declared.Bound.TheVariants.{Segments, Timepoint, Nothing}
use Rattle.condition.specs.Condition.{Span, ArithOp, Window, unsaid, seconds, parameter, Slot, named, param_ref, binder_ref, Annotation, timepoint, path, Binder, Operator, Condition, Term, Aggregate, predicate, comparison, tp, argument, entity, literal, context_field, scope_field, var, wildcard, array, aggregate, arith, sigil, cons, sum, binder}
use Rattle.condition.specs.Walk.{reached, reached_body, operand_aggregates, declared_by}
use Rattle.condition.specs.Places.{condition_here, term_here, is_condition, condition_in, is_term, term_in, aggregate_at, is_aggregate, aggregate_in, is_arguments, arguments_in, is_elements, elements_in, is_path, path_in, is_slot, slot_in}
use Rattle.nodes.specs.Kinds.{span_of, window_of, own_span_of, term_kind_of, aggregate_span_of, operator_number}

-- the two numbers of a span that starts there
pub record EndsHere (s : List ℕ) (at : ℕ) (r : Ends) : Type 0 where
  pub start : r.start ≡ number 0 (take 4 (drop at s))
  pub end : r.end ≡ number 0 (take 4 (drop (at + 4) s))

-- a span's ends
pub record Spans (span : Span) (r : Ends) : Type 0 where
  pub start : r.start ≡ span.start
  pub end : r.end ≡ span.end

-- the window that an answer says, and that it is the window of the condition there
abbrev pub window_from : WindowAt → Window
window_from Unsaid = unsaid
window_from Parameter = parameter
window_from (Seconds n) = seconds n

pub record WindowHere (s : List ℕ) (at : ℕ) (r : WindowAt) : Type 0 where
  pub value : window_of (condition_in s at) ≡ window_from r

pub record ComparisonHere (s : List ℕ) (at : ℕ) (p : ComparisonAt) : Type 0 where
  pub op : Operator
  pub number : p.operator ≡ operator_number op
  pub left : is_term s p.left ≡ true
  pub right : is_term s p.right ≡ true
  pub ahead : at < p.left
  pub further : p.left < p.right
  pub value : condition_in s at ≡ comparison (span_of (condition_in s at)) op (term_in s p.left) (term_in s p.right)

pub record ArithHere (s : List ℕ) (at : ℕ) (p : Operands) : Type 0 where
  pub op : Option ArithOp
  pub left : is_term s p.left ≡ true
  pub right : is_term s p.right ≡ true
  pub ahead : at < p.left
  pub further : p.left < p.right
  pub value : term_in s at ≡ arith op (term_in s p.left) (term_in s p.right)

pub record PredicateHere (s : List ℕ) (at : ℕ) (p : PredicateAt) : Type 0 where
  pub namespace : List (List ℕ)
  pub names : Listed (string_of path_name) s namespace p.names p.namespace
  pub args : is_arguments s p.count p.first ≡ true
  pub ahead : at < p.first
  pub value : condition_in s at ≡ predicate (span_of (condition_in s at)) (own_span_of (condition_in s at)) namespace (word_at s p.action) (arguments_in s p.count p.first)

-- the first of so many arguments; its name stands at its own place
pub record ArgumentHere (s : List ℕ) (n at : ℕ) (p : ArgumentAt) : Type 0 where
  pub field : is_path s p.field ≡ true
  pub term : is_term s p.term ≡ true
  pub rest : is_arguments s (n - 1) p.next ≡ true
  pub ahead : at < p.term
  pub further : p.term < p.next
  pub value : arguments_in s n at ≡ argument (word_at s at) (path_in s p.field) (term_in s p.term) (arguments_in s (n - 1) p.next)

pub record TimepointHere (s : List ℕ) (at p : ℕ) : Type 0 where
  pub stands : is_slot s p ≡ true
  pub value : condition_in s at ≡ tp (span_of (condition_in s at)) (slot_in s p)

-- the elements of an array, and the first of so many, which stands at its own place
pub record ElementsHere (s : List ℕ) (at : ℕ) (p : Several) : Type 0 where
  pub stands : is_elements s p.count p.first ≡ true
  pub ahead : at < p.first
  pub value : term_in s at ≡ array (elements_in s p.count p.first)

pub record ElementHere (s : List ℕ) (n at p : ℕ) : Type 0 where
  pub element : is_term s at ≡ true
  pub rest : is_elements s (n - 1) p ≡ true
  pub ahead : at < p
  pub value : elements_in s n at ≡ cons (term_in s at) (elements_in s (n - 1) p)

-- a term that is a path behind its kind byte
pub record PathHere (make : List (List ℕ) → Term) (s : List ℕ) (at p : ℕ) : Type 0 where
  pub stands : is_path s p ≡ true
  pub value : term_in s at ≡ make (path_in s p)

-- the summand and the binders of an aggregate
pub record SummandHere (s : List ℕ) (at p : ℕ) : Type 0 where
  pub declared : List Binder
  pub body : Condition
  pub stands : is_slot s p ≡ true
  pub value : aggregate_in s at ≡ sum (aggregate_span_of (aggregate_in s at)) (slot_in s p) declared body

abbrev pub is_binders : List ℕ → ℕ → Bool
is_binders s at = accepted (counted (each binder) s at)

unfoldable pub binders_in : List ℕ → ℕ → List Binder
binders_in s at = value_or [] (counted (each binder) s at)

-- the binders of an aggregate, and its body, which stands behind them
pub record BindersHere (s : List ℕ) (at p : ℕ) : Type 0 where
  pub body : ℕ
  pub stands : is_binders s p ≡ true
  pub ahead : at + 9 ≤ p
  pub value : declared_by (aggregate_in s at) ≡ binders_in s p
  pub between : ending (counted (each binder) s p) ≡ Ok body
  pub behind : is_condition s body ≡ true
  pub reaches : reached_body (aggregate_in s at) ≡ reached (condition_in s body)
  pub ends : ending (aggregate_at s at) ≡ ending (condition_here s body)

-- the name of a binder that has one, behind the choice byte of its slot
unfoldable pub name_in : List ℕ → ℕ → List ℕ
name_in s at = word_at s (at + 1)

-- what a slot is
abbrev pub slot_of : List ℕ → SlotAt → Slot
slot_of s (Named p) = named (word_at s p)
slot_of s ParamRef = param_ref
slot_of s BinderRef = binder_ref

-- document 01's number of a slot, and of the code's answer
abbrev pub slot_number : Slot → ℕ
slot_number (named w) = 0
slot_number param_ref = 1
slot_number binder_ref = 2

abbrev pub slot_at_number : SlotAt → ℕ
slot_at_number (Named p) = 0
slot_at_number ParamRef = 1
slot_at_number BinderRef = 2

-- the answer is the slot that stands there: its number and its value
pub record SlotHere (s : List ℕ) (at : ℕ) (r : SlotAt) : Type 0 where
  pub number : slot_at_number r ≡ slot_number (slot_in s at)
  pub value : slot_in s at ≡ slot_of s r

-- the segments of an annotation, of which there is one at least
unfoldable pub segments_in : List ℕ → ℕ → List (List ℕ)
segments_in s at = value_or [] (counted (each (string_of identifier)) s at)

pub record SegmentsHere (s : List ℕ) (at : ℕ) : Type 0 where
  pub stands : accepted (counted (each (string_of identifier)) s at) ≡ true
  pub some : 0 < get_or s at 0

-- what is bound: the annotation, if there is one
abbrev pub bound_in : List ℕ → Bound → Option Annotation
bound_in s (Segments p) = some (path (segments_in s p))
bound_in s Timepoint = some timepoint
bound_in s Nothing = none

-- and that it stands there
abbrev pub BoundStands : List ℕ → Bound → Type 0
BoundStands s (Segments p) = SegmentsHere s p
BoundStands s Timepoint = Unit {0}
BoundStands s Nothing = Unit {0}

pub record BoundBy (s : List ℕ) (o : Option Annotation) (r : Bound) : Type 0 where
  pub stands : BoundStands s r
  pub value : bound_in s r ≡ o

-- a string of whatever class, and such strings behind their count
abbrev pub any_string : Reader (List ℕ)
any_string = string_of (λ w. true)

unfoldable pub strings_at : Reader (List (List ℕ))
strings_at = counted (each (string_of (λ w. true)))

-- so many terms in a row, and their aggregates in order
abbrev pub is_terms : List ℕ → ℕ → ℕ → Bool
is_terms s n at = is_row term_here s n at

unfoldable pub aggregates_in : List ℕ → ℕ → ℕ → List Aggregate
aggregates_in s n at = gather operand_aggregates (row_in term_here s n at)

-- the first of them, and the terms that the others are in; or there is none
pub record AggregateNext (s : List ℕ) (list : List Aggregate) (p : ℕ) (rest : Several) : Type 0 where
  pub stands : is_aggregate s p ≡ true
  pub others : is_terms s rest.count rest.first ≡ true
  pub value : list ≡ aggregate_in s p ∷ aggregates_in s rest.count rest.first

-- what the code finds next among terms in a row, if there is a part more: where it stands, and the terms that the others are in
abbrev pub NextPart : Type 0
NextPart = code.Option (ℕ × Several)

abbrev pub NextIs : List ℕ → List Aggregate → NextPart → Type 0
NextIs s list (Some (p, rest)) = AggregateNext s list p rest
NextIs s list None = list ≡ []

-- the operands of a comparison as two terms in a row
pub record OperandsHere (s : List ℕ) (at : ℕ) (r : Several) : Type 0 where
  pub op : Operator
  pub left : Term
  pub right : Term
  pub stands : is_terms s r.count r.first ≡ true
  pub whole : condition_in s at ≡ comparison (span_of (condition_in s at)) op left right
  pub value : aggregates_in s r.count r.first ≡ operand_aggregates left ++ operand_aggregates right

-- an operand's leaves: itself, or those of an Arith's left, then right
unfoldable pub operand_leaves : Term → List Term
operand_leaves (entity n) = entity n ∷ []
operand_leaves (literal l) = literal l ∷ []
operand_leaves (context_field p) = context_field p ∷ []
operand_leaves (scope_field p) = scope_field p ∷ []
operand_leaves (var v) = var v ∷ []
operand_leaves wildcard = wildcard ∷ []
operand_leaves (array ts) = array ts ∷ []
operand_leaves (aggregate a) = aggregate a ∷ []
operand_leaves (arith op l r) = operand_leaves l ++ operand_leaves r
operand_leaves sigil = sigil ∷ []

-- the leaves of so many terms in a row, in order
unfoldable pub leaves_in : List ℕ → ℕ → ℕ → List Term
leaves_in s n at = gather operand_leaves (row_in term_here s n at)

-- the first of them, which is no Arith, and the terms that the others are in; or there is none
pub record LeafNext (s : List ℕ) (list : List Term) (p : ℕ) (rest : Several) : Type 0 where
  pub stands : is_term s p ≡ true
  pub leaf : term_kind_of (term_in s p) ≡ 12 → ⊥
  pub others : is_terms s rest.count rest.first ≡ true
  pub value : list ≡ term_in s p ∷ leaves_in s rest.count rest.first

abbrev pub NextLeafIs : List ℕ → List Term → NextPart → Type 0
NextLeafIs s list (Some (p, rest)) = LeafNext s list p rest
NextLeafIs s list None = list ≡ []
