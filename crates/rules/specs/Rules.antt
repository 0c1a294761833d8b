-- The typing rules: what one reached node of a condition breaks, under the facts of a target.
use Rattle.std.specs.Prelude.{ℕ, Bool, true, false, not, List, [], ◌∷◌, ◌++◌}
use Rattle.std.proofs.Math.Option.{Option, none, some}
use Rattle.types.specs.Types as types
use Rattle.types.specs.Types.{Ty, Profile, scalar, is_numeric, are_ordered, accepts, compatible}
use Rattle.schema.specs.Schema.{Action}
use Rattle.resolution.specs.Resolution.{context_type_by, predicate_action}
use Rattle.condition.specs.Condition.{Condition, Term, Arguments, Slot, named, param_ref, binder_ref, Operator, le, lt, ge, gt, eq, not_eq, one, two, predicate, comparison, exists, tp, opaque, no_argument, argument, entity, literal, context_field, scope_field, var, wildcard, array, aggregate, arith, sigil}
use Rattle.terms.specs.Terms.{Facts, term_type, var_type}
use Rattle.reports.specs.Reports.{Breach}
use Rattle.messages.specs.Words.{Rule}
use Rattle.rules.specs.Messages.{wrong_argument, wrong_timepoint, not_numeric, unlike_types, wildcard_inside, not_long}

abbrev pub breach_if : Bool → List ℕ → Rule
breach_if true m at = record { start = at.start; end = at.end; message = m } ∷ []
breach_if false m at = []

-- what f says of two types, where both are known
abbrev pub both : Option Ty → Option Ty → (Ty → Ty → Rule) → Rule
both none r f at = []
both (some l) none f at = []
both (some l) (some r) f at = f l r at

abbrev pub not_long_here : Option Ty → Rule
not_long_here none at = []
not_long_here (some t) at = breach_if (not (is_numeric t)) (not_long t) at

-- the operators of order
abbrev pub ordering : Operator → Bool
ordering le = true
ordering lt = true
ordering ge = true
ordering gt = true
ordering eq = false
ordering not_eq = false

-- the type that a `tp` variable is declared with, where it is no timepoint
unfoldable pub timepoint_breach : List ℕ → Option Ty → Rule
timepoint_breach name none at = []
timepoint_breach name (some t) at = breach_if (not (types.same_type t (scalar types.timepoint))) (wrong_timepoint name t) at

-- an argument's type, beside that of its field
unfoldable pub argument_breach : List ℕ → List ℕ → Ty → Ty → Rule
argument_breach param name expected actual = breach_if (not (accepts expected actual)) (wrong_argument param name expected actual)

-- the types of two operands, by whether the operator is one of order
unfoldable pub numeric_breaches : Ty → Ty → Rule
numeric_breaches l r = breach_if (not (are_ordered l r)) (not_numeric l r)

unfoldable pub like_breaches : Profile → Ty → Ty → Rule
like_breaches p l r = breach_if (not (compatible p l r)) (unlike_types l r)

abbrev pub operands_by : Profile → Bool → Ty → Ty → Rule
operands_by p true = numeric_breaches
operands_by p false = like_breaches p

module _ (f : Facts) where
  -- `check_arg_type`: a predicate's arguments, each judged where its field resolves in the predicate's own action
  unfoldable pub argument_breaches : List ℕ → Option Action → Arguments → Rule
  argument_breaches name action no_argument own = []
  argument_breaches name action (argument param field value rest) own =
      both (context_type_by f.vocabulary action field) (term_type (some f) value) (argument_breach param name) own
      ++ argument_breaches name action rest own

  -- `check_arith_atoms`: a leaf is Long or has no type; a wildcard, though it has no type, is always a breach
  unfoldable pub leaf_breaches : Term → Rule
  leaf_breaches (arith op l r) at = leaf_breaches l at ++ leaf_breaches r at
  leaf_breaches wildcard at = breach_if true wildcard_inside at
  leaf_breaches sigil at = []
  leaf_breaches (entity n) at = not_long_here (term_type (some f) (entity n)) at
  leaf_breaches (literal l) at = not_long_here (term_type (some f) (literal l)) at
  leaf_breaches (context_field p) at = not_long_here (term_type (some f) (context_field p)) at
  leaf_breaches (scope_field p) at = not_long_here (term_type (some f) (scope_field p)) at
  leaf_breaches (var v) at = not_long_here (term_type (some f) (var v)) at
  leaf_breaches (array ts) at = not_long_here (term_type (some f) (array ts)) at
  leaf_breaches (aggregate a) at = []

  -- only an operand that is arithmetic is inspected
  unfoldable pub arithmetic_breaches : Term → Rule
  arithmetic_breaches (arith op l r) at = leaf_breaches (arith op l r) at
  arithmetic_breaches wildcard at = []
  arithmetic_breaches sigil at = []
  arithmetic_breaches (entity n) at = []
  arithmetic_breaches (literal l) at = []
  arithmetic_breaches (context_field p) at = []
  arithmetic_breaches (scope_field p) at = []
  arithmetic_breaches (var v) at = []
  arithmetic_breaches (array ts) at = []
  arithmetic_breaches (aggregate a) at = []

  unfoldable pub timepoint_breaches : Slot → Rule
  timepoint_breaches (named name) at = timepoint_breach name (var_type f name) at
  timepoint_breaches param_ref at = []
  timepoint_breaches binder_ref at = []

  -- what one reached node breaks
  unfoldable pub node_breaches : Condition → List Breach
  node_breaches (one k at c) = []
  node_breaches (two k at l r) = []
  node_breaches (predicate at own ns name args) =
      argument_breaches name (predicate_action f.schema ns name) args own
  node_breaches (comparison at op l r) =
      arithmetic_breaches l at ++ arithmetic_breaches r at
      ++ both (term_type (some f) l) (term_type (some f) r) (operands_by f.profile (ordering op)) at
  node_breaches (exists at b c) = []
  node_breaches (tp at slot) = timepoint_breaches slot at
  node_breaches (opaque at) = []
