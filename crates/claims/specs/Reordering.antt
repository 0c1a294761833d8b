-- What swapping the two operands of a comparison changes in its reports: at a node under the same facts nothing but the order of the reports on
-- arithmetic and the order of the two types in the text. In a whole condition it may change which binder of a name comes last, and so more.
-- `proofs/Reordering.antt` proves it.
use Rattle.std.specs.Prelude.{ℕ, ◌≡◌, Bool, true, false, ◌↔◌, List, [], ◌∷◌, ◌++◌, length}
use Rattle.names.specs.Text.{text}
use Rattle.types.specs.Types.{Ty}
use Rattle.condition.specs.Condition.{Span, Condition, Term, Operator, eq, comparison, opaque, aggregate, count, var}
use Rattle.terms.specs.Terms.{Facts}
use Rattle.reports.specs.Reports.{Breach}
use Rattle.rules.specs.Messages.{not_numeric, unlike_types}
use Rattle.rules.specs.Rules.{breach_if, ordering, arithmetic_breaches, node_breaches}
use Rattle.claims.specs.Examples.{AnyName, binder_of, integer, reports}
use Rattle.claims.specs.Rows.{Row, of_all}

-- the text that shows the types of two operands: of an order, and of an equality
abbrev pub shown : Bool → Ty → Ty → List ℕ
shown true = not_numeric
shown false = unlike_types

-- what is said of two operands, and what is said once they are swapped: nothing both times, or the two types shown in the other order
pub data Turned (ordered : Bool) (at : Span) : List Breach → List Breach → Type 0 where
  silent : Turned ordered at [] []
  shows : (t u : Ty) → Turned ordered at (breach_if true (shown ordered t u) at) (breach_if true (shown ordered u t) at)

-- a comparison, and the same with its operands swapped
pub record Swapped (f : Facts) (at : Span) (op back : Operator) (l r : Term) : Type 0 where
  -- what is said of the two types, before and after
  pub own : List Breach
  pub turned : List Breach
  pub words : Turned (ordering op) at own turned
  -- what is said of either operand's arithmetic stays as it is, and comes in the other order
  pub before : node_breaches f (comparison at op l r) ≡ arithmetic_breaches f l at ++ arithmetic_breaches f r at ++ own
  pub after : node_breaches f (comparison at back r l) ≡ arithmetic_breaches f r at ++ arithmetic_breaches f l at ++ turned
  -- so there are as many breaches as before, and none exactly where there was none
  pub count : length (node_breaches f (comparison at op l r)) ≡ length (node_breaches f (comparison at back r l))
  pub none : (node_breaches f (comparison at op l r) ≡ []) ↔ (node_breaches f (comparison at back r l) ≡ [])

-- at every node, under all facts: `l == r` and `r == l`, `l != r` and `r != l`, and also `l < r` and `r > l`
abbrev pub Reordering : Type 0
Reordering = (f : Facts) (at : Span) (op back : Operator) (l r : Term) → ordering op ≡ ordering back → Swapped f at op back l r

-- `count for (v: TYPE) BODY`
abbrev pub counting : AnyName → List ℕ → Condition → Term
counting x type body = aggregate (count x.under.at (binder_of x.name type ∷ []) body)

-- `count for (v: Long) (v == 1)` and `count for (v: String) f()`
abbrev pub asking_count : AnyName → Term
asking_count x = counting x (text "Long") (comparison x.under.at eq (var x.name) integer)

abbrev pub other_count : AnyName → Term
other_count x = counting x (text "String") (opaque x.under.at)

-- Of a whole condition it does not hold: the last binder of a name counts everywhere, and a swap changes which one that is. The two counts are both
-- Long; `v == 1` inside the first is a breach where the other one stands behind it, and none where it stands in front.
abbrev pub wholes : List Row
wholes =
    of_all AnyName (λ x. reports x.under (comparison x.under.at eq (asking_count x) (other_count x))) 1
    ∷ of_all AnyName (λ x. reports x.under (comparison x.under.at eq (other_count x) (asking_count x))) 0
    ∷ []
