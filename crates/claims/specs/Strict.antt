-- What a strict check reports beside a plain one over the same records: `Inclusion`, of runs with space for all reports. It speaks of the pairs
-- (message, start); a report's end and its place in the order are not covered, since a strict breach may come first under the same message and start.
-- `proofs/Strict.antt` proves it.
use Rattle.std.specs.Prelude.{ℕ, ◌+◌, ◌*◌, ◌<◌, ◌≡◌, true, false, ◌⊎◌, List}
use Rattle.std.proofs.Math.Option.{some}
use Rattle.types.specs.Types.{Ty, dated, plain, strict}
use Rattle.types.specs.Profiles.{Unlike}
use Rattle.schema.specs.Schema.{Schema}
use Rattle.schema.specs.Find.{find_action}
use Rattle.condition.specs.Condition.{Condition, Binder, Span, Operator, Term, comparison}
use Rattle.walk.specs.Scopes.{under, Binding, binding_of, nodes_by}
use Rattle.targets.specs.Targets.{Target, Targets}
use Rattle.terms.specs.Terms.{facts_among, term_type}
use Rattle.rules.specs.Rules.{ordering}
use Rattle.rules.specs.Messages.{unlike_types}
use Rattle.reports.specs.Pairs.{◌∈◌, Pair, pair_of}
use Rattle.typecheck.specs.Check.{profile_of, is_checked, check_with, check}
use Rattle.claims.specs.Breaches.{Accepted, SpaceForAll, Run, reported_pairs}

-- the pair of an equality whose operands are entities with unlike tags, under as many layers each, at a reached node under a target that is checked
pub record Added (binding : Binding) (s : Schema) (c : Condition) (ts : Targets) (k : Pair) : Type 0 where
  pub target : Target
  pub listed : target ∈ ts.list
  pub checked : is_checked s ts.scope target ≡ true
  pub at : Span
  pub op : Operator
  pub left : Term
  pub right : Term
  pub around : List Binder
  pub is_reached : under around (comparison at op left right) ∈ nodes_by binding c
  pub is_equality : ordering op ≡ false
  pub type_left : Ty
  pub type_right : Ty
  pub is_left : term_type (some (facts_among dated plain s ts.scope (find_action s target.namespace target.id) around)) left ≡ some type_left
  pub is_right : term_type (some (facts_among dated plain s ts.scope (find_action s target.namespace target.id) around)) right ≡ some type_right
  pub unlike : Unlike type_left type_right
  pub pair : k ≡ pair_of (record { start = at.start; end = at.end; message = unlike_types type_left type_right })

-- a plain run and a strict one over the same accepted records, each with space for all of its reports, by the same binding of names
module _ (schema_bytes condition_bytes target_bytes : List ℕ) (s : Schema) (c : Condition) (ts : Targets) where
  pub record Beside (own also : ℕ) (a : Run own schema_bytes condition_bytes target_bytes) (b : Run also schema_bytes condition_bytes target_bytes) : Type 0 where
    -- each pair that the plain one reports is reported by the strict one
    pub included : (k : Pair) → k ∈ reported_pairs a → k ∈ reported_pairs b
    -- and what the strict one reports beside them are equalities of unlike tags
    pub nothing_else : (k : Pair) → k ∈ reported_pairs b → (k ∈ reported_pairs a) ⊎ Added (binding_of own) s c ts k

  abbrev pub Inclusion : Type 0
  Inclusion =
      Accepted schema_bytes condition_bytes target_bytes s c ts
      → (own also : ℕ) → profile_of own ≡ plain → profile_of also ≡ strict → binding_of own ≡ binding_of also
      → (a : Run own schema_bytes condition_bytes target_bytes) (b : Run also schema_bytes condition_bytes target_bytes)
      → SpaceForAll own s c ts a.before → SpaceForAll also s c ts b.before
      → Beside own also a b

-- the check without rules is the plain one, by computation; so what holds of runs with rules 0 holds of those of `dogwood_check`
abbrev pub NoRules : Type 0
NoRules = (schema_bytes condition_bytes target_bytes buffer : List ℕ) → check schema_bytes condition_bytes target_bytes buffer ≡ check_with 0 schema_bytes condition_bytes target_bytes buffer

-- the bits of the rules: the lowest is strict, the next is for own bodies, and a number's other bits are of no effect
pub record Bits : Type 0 where
  pub zero : profile_of 0 ≡ plain
  pub one : profile_of 1 ≡ strict
  pub even : (n : ℕ) → profile_of (2 * n) ≡ plain
  pub odd : (n : ℕ) → profile_of (2 * n + 1) ≡ strict
  pub below : (n bit : ℕ) → bit < 2 → binding_of (4 * n + bit) ≡ Binding.flat
  pub above : (n bit : ℕ) → bit < 2 → binding_of (4 * n + 2 + bit) ≡ Binding.own
