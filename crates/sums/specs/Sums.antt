-- The summand rule: a `sum` adds only what is declared Long.
use Rattle.std.specs.Prelude.{ℕ, cond, ◌||◌, List, [], ◌∷◌, ◌++◌}
use Rattle.std.proofs.Math.Option.{Option, none, some}
use Rattle.names.specs.Lists.{gather}
use Rattle.names.specs.Fields.{either, whole}
use Rattle.names.specs.Names.{same, joined, last_of}
use Rattle.names.specs.Text.{text}
use Rattle.condition.specs.Condition.{Binder, Condition, Term, Terms, Aggregate, Arguments, named, param_ref, binder_ref, Annotation, timepoint, path, one, two, predicate, comparison, exists, tp, opaque, no_argument, argument, entity, literal, context_field, scope_field, var, wildcard, array, aggregate, arith, sigil, nil, cons, sum, count, call, condition_record}
use Rattle.condition.specs.Walk.{last_named}
use Rattle.walk.specs.Scopes.{Binding, flat, own, binding_of, nodes_by}
use Rattle.reports.specs.Messages.{message}
use Rattle.reports.specs.declared.Message.TheVariants.{CannotSum, CannotSumTimepoint, CannotSumDecimal}
use Rattle.messages.specs.Words.{Rule}
use Rattle.reports.specs.Reports as reports
use Rattle.reports.specs.Reports.{Breach, Outcome, refusal}

-- one report; it has the shape of a breach
abbrev pub report : List ℕ → Rule
report m at = record { start = at.start; end = at.end; message = m } ∷ []

-- `sum_summand_type_error`: the report of a summand, by what its name is declared as; Long has none, nor has a name that nothing declares
unfoldable pub summand_breach : List ℕ → Option Annotation → Rule
summand_breach name none at = []
summand_breach name (some timepoint) at = report (message CannotSumTimepoint (name ∷ name ∷ [])) at
summand_breach name (some (path segments)) at =
    let w : List ℕ = last_of segments in
    cond (same w (text "Long")) []
    (cond (same w (text "decimal") || same w (text "Decimal"))
    (report (message CannotSumDecimal (name ∷ name ∷ [])) at)
    (report (message CannotSum (name ∷ name ∷ joined segments ∷ [])) at))

-- the binders that a summand's name is looked up among: those of its node; where a binder covers its own body, the aggregate's own list behind them
abbrev pub summand_binders : Binding → List Binder → List Binder → List Binder
summand_binders flat bs list = bs
summand_binders own bs list = bs ++ list

-- `check_sum_summands` at a node whose names are looked up among these binders; in the flat environment they are those of the whole condition, and what they
-- declare, the last of a name in walk order, is `collect_declared_binder_types`
module _ (binding : Binding) (bs : List Binder) where
  unfoldable pub aggregate_breaches : Aggregate → List Breach
  aggregate_breaches (sum at (named name) list body) = summand_breach name (last_named name (summand_binders binding bs list)) at
  aggregate_breaches (sum at param_ref list body) = []
  aggregate_breaches (sum at binder_ref list body) = []
  aggregate_breaches (count at list body) = []
  aggregate_breaches (call at) = []

  -- `visit_term`: the aggregates of a term, into arithmetic and arrays (which hold none), and not into the aggregates' bodies
  unfoldable mutual
    pub term_breaches : Term → List Breach
    term_breaches (entity n) = []
    term_breaches (literal l) = []
    term_breaches (context_field p) = []
    term_breaches (scope_field p) = []
    term_breaches (var v) = []
    term_breaches wildcard = []
    term_breaches (array ts) = terms_breaches ts
    term_breaches (aggregate a) = aggregate_breaches a
    term_breaches (arith op l r) = term_breaches l ++ term_breaches r
    term_breaches sigil = []

    pub terms_breaches : Terms → List Breach
    terms_breaches nil = []
    terms_breaches (cons t ts) = term_breaches t ++ terms_breaches ts

  -- `for_each_term` of a predicate: the arguments one after the other
  unfoldable pub arguments_breaches : Arguments → List Breach
  arguments_breaches no_argument = []
  arguments_breaches (argument n p t rest) = term_breaches t ++ arguments_breaches rest

  -- `for_each_term` of a reached node
  unfoldable pub condition_breaches : Condition → List Breach
  condition_breaches (one k at c) = []
  condition_breaches (two k at l r) = []
  condition_breaches (predicate at span ns name args) = arguments_breaches args
  condition_breaches (comparison at op l r) = term_breaches l ++ term_breaches r
  condition_breaches (exists at b c) = []
  condition_breaches (tp at s) = []
  condition_breaches (opaque at) = []

-- the reports of a condition, in the order of the walk; repeats stay
unfoldable pub breaches : Binding → Condition → List Breach
breaches binding c = gather (λ x. condition_breaches binding x.around x.node) (nodes_by binding c)

-- Sums with the caller's rules: record 2 is read; its refusal, or the reports in the buffer
unfoldable pub sums_with : ℕ → List ℕ → List ℕ → Outcome
sums_with rules condition_bytes buffer =
    either (λ r. refusal r 2 buffer) (λ c. reports.reported (breaches (binding_of rules) c) buffer) (whole condition_record condition_bytes)

-- the Sums that the Rust measures: no rules
unfoldable pub sums : List ℕ → List ℕ → Outcome
sums = sums_with 0
