-- What the rules say of what stands at places of the condition, in a setting of the code.
use Rattle.std.specs.Prelude.{ℕ, ◌≡◌, true, List, ◌++◌}
use Rattle.std.proofs.Math.Option.{Option, some}
use Rattle.names.specs.Read.{word_at}
use Rattle.types.specs.Types.{Ty}
use Rattle.types.specs.Meaning.{profile_in}
use Rattle.schema.specs.Places.{is_action, action_in, found_in, found_stands}
use Rattle.resolution.specs.Resolution.{context_type}
use Rattle.condition.specs.Condition.{Operator, comparison}
use Rattle.condition.specs.Places.{condition_in, is_term, term_in, is_arguments, arguments_in, path_in, slot_in}
use Rattle.nodes.specs.declared.ArgumentAt.{ArgumentAt}
use Rattle.terms.specs.Terms.{term_type}
use Rattle.terms.specs.Settings.{facts_at}
use Rattle.terms.specs.declared.setting.Setting.{Setting}
use Rattle.reports.specs.Reports.{Breach}
use Rattle.messages.specs.Words.{Rule, span_in}
use Rattle.rules.specs.Rules.{both, ordering, operands_by, argument_breach, argument_breaches, leaf_breaches, arithmetic_breaches, timepoint_breaches, node_breaches}
use Rattle.rules.specs.declared.Compared.{Compared}
use Rattle.rules.specs.declared.Operand.{Operand}
use Rattle.rules.specs.declared.Applied.{Applied}
use Rattle.rules.specs.declared.Judged.{Judged}
use Rattle.rules.specs.Findings.{FindingStands, found_breaches}

module _ (t : Setting) where
  abbrev pub node_at : ℕ → List Breach
  node_at at = node_breaches (facts_at t) (condition_in t.condition.bytes.now at)

  abbrev pub type_at : ℕ → Option Ty
  type_at at = term_type (some (facts_at t)) (term_in t.condition.bytes.now at)

  abbrev pub leaf_at : ℕ → Rule
  leaf_at at = leaf_breaches (facts_at t) (term_in t.condition.bytes.now at)

  abbrev pub arithmetic_at : ℕ → Rule
  arithmetic_at at = arithmetic_breaches (facts_at t) (term_in t.condition.bytes.now at)

  -- an operand: its leaves, and those that are inspected
  abbrev pub leaves_of : Operand → List Breach
  leaves_of p = leaf_at p.at (span_in p.span)

  abbrev pub arithmetic_of : Operand → List Breach
  arithmetic_of p = arithmetic_at p.at (span_in p.span)

  abbrev pub timepoint_at : ℕ → Rule
  timepoint_at at = timepoint_breaches (facts_at t) (slot_in t.condition.bytes.now at)

  -- a comparison: the arithmetic of its operands, and their types
  abbrev pub arithmetics_at : Compared → List Breach
  arithmetics_at p = arithmetic_at p.left (span_in p.span) ++ arithmetic_at p.right (span_in p.span)

  abbrev pub operands_at : Compared → Rule
  operands_at p = both (type_at p.left) (type_at p.right) (operands_by (profile_in t.facts.common.profile) p.ordering)

  -- a predicate: an argument whose name stands at a place, and all of them
  abbrev pub argument_at : Applied → ℕ → ArgumentAt → Rule
  argument_at p at q =
      both (context_type (found_in (action_in t.schema.bytes.now) p.action) (path_in t.condition.bytes.now q.field)) (type_at q.term) (argument_breach (word_at t.condition.bytes.now at) (word_at t.condition.bytes.now p.name))

  abbrev pub arguments_at : Applied → List Breach
  arguments_at p =
      argument_breaches (facts_at t) (word_at t.condition.bytes.now p.name) (found_in (action_in t.schema.bytes.now) p.action) (arguments_in t.condition.bytes.now p.count p.first) (span_in p.span)

-- the comparison at a place, taken apart
pub record ComparedHere (c : List ℕ) (at : ℕ) (p : Compared) : Type 0 where
  pub op : Operator
  pub ordered : p.ordering ≡ ordering op
  pub left : is_term c p.left ≡ true
  pub right : is_term c p.right ≡ true
  pub value : condition_in c at ≡ comparison (span_in p.span) op (term_in c p.left) (term_in c p.right)

-- the predicate at a place, taken apart: its action stands, and its breaches are those of its arguments
pub record AppliedHere (t : Setting) (at : ℕ) (p : Applied) : Type 0 where
  pub action : found_stands (is_action t.schema.bytes.now) p.action ≡ true
  pub args : is_arguments t.condition.bytes.now p.count p.first ≡ true
  pub value : arguments_at t p ≡ node_at t at

-- a node that was judged: what is said at its span are its breaches
pub record JudgedHere (t : Setting) (bs : List Breach) (r : Judged) : Type 0 where
  pub is : found_breaches t r.finding (span_in r.span) ≡ bs
  pub stands : FindingStands t r.finding
