-- The check: the reports of what a condition breaks at each node that the walk reaches, under each target, how many such visits are begun, and the answer.
-- What is named `..By` takes the words known first; under the name without it, it is by those that the code knows.
use Rattle.std.specs.Prelude.{ℕ, suc, ◌%◌, Bool, true, cond, List, [], ◌∷◌, ◌++◌, map, eqb}
use Rattle.std.proofs.Math.Option.{Option, none, some}
use Rattle.names.specs.Lists.{maybe, gather}
use Rattle.names.specs.Fields.{either, whole}
use Rattle.types.specs.Types.{Vocabulary, dated, Profile, plain, strict}
use Rattle.schema.specs.Schema as schema
use Rattle.schema.specs.Schema.{Schema, Action}
use Rattle.targets.specs.Targets as targets
use Rattle.targets.specs.Targets.{Target, Targets, Scope}
use Rattle.schema.specs.Find.{find_action}
use Rattle.resolution.specs.Resolution.{admits_any_env}
use Rattle.condition.specs.Condition as condition
use Rattle.condition.specs.Condition.{Condition}
use Rattle.walk.specs.Scopes.{Binding, flat, binding_of, Scoped, nodes_by}
use Rattle.terms.specs.Terms.{facts_among}
use Rattle.reports.specs.Reports.{Breach, Outcome, once, refusal, reported}
use Rattle.rules.specs.Rules.{node_breaches}

-- the profile that a caller's rules choose: bit 0 (value 1) is strict
unfoldable pub profile_of : ℕ → Profile
profile_of rules = cond (eqb (rules % 2) 1) strict plain

-- what the rules choose: how an equality takes two entities, and how a name is bound (bit 1, value 2: by own bodies)
pub record Choices : Type 0 where
  pub profile : Profile
  pub binding : Binding

abbrev pub choices_of : ℕ → Choices
choices_of rules = record { profile = profile_of rules; binding = binding_of rules }

-- those of the check that the Rust measures
abbrev pub no_choice : Choices
no_choice = record { profile = plain; binding = flat }

-- what one reached node breaks under a target whose action is this one, or undeclared: its names are looked up among the binders that stand with it
abbrev pub breaches_at : Vocabulary → Profile → Schema → Scope → Option Action → Scoped → List Breach
breaches_at v p s scope a n = node_breaches (facts_among v p s scope a n.around) n.node

-- `check_types_for_action`: the breaches of document 01 under one target, from choices, schema, condition, narrowing and that target alone: none where its action is declared and admits no environment
unfoldable pub breaches_under_by : Vocabulary → Choices → Schema → Condition → Scope → Target → List Breach
breaches_under_by v k s c scope t =
    maybe (gather (breaches_at v k.profile s scope none) (nodes_by k.binding c))
    (λ a. cond (admits_any_env s scope a) (gather (breaches_at v k.profile s scope (some a)) (nodes_by k.binding c)) [])
    (find_action s t.namespace t.id)

abbrev pub breaches_under : Choices → Schema → Condition → Scope → Target → List Breach
breaches_under = breaches_under_by dated

-- a target that is checked, and not skipped: the schema has no action for its namespace and id, or the action admits an environment under the narrowing
unfoldable pub is_checked : Schema → Scope → Target → Bool
is_checked s scope t = maybe true (admits_any_env s scope) (find_action s t.namespace t.id)

-- the visits under one target, each as the breaches that it finds: one for each reached node, and none where the target is skipped
unfoldable pub visits_under_by : Vocabulary → Choices → Schema → Condition → Scope → Target → List (List Breach)
visits_under_by v k s c scope t =
    cond (is_checked s scope t) (map (breaches_at v k.profile s scope (find_action s t.namespace t.id)) (nodes_by k.binding c)) []

abbrev pub visits_under : Choices → Schema → Condition → Scope → Target → List (List Breach)
visits_under = visits_under_by dated

-- how many of these visits are begun, `before` being what earlier ones found: each one before which every report fits in the buffer. So the last one
-- is that whose report did not fit, if there is such a one
unfoldable pub begun : List ℕ → List Breach → List (List Breach) → ℕ
begun buffer before [] = 0
begun buffer before (found ∷ rest) = cond (eqb (reported (once [] before) buffer).answer.number 0) (suc (begun buffer (before ++ found) rest)) 0

-- what a check answers and leaves in the buffer, and how many visits it has begun
pub record CheckOutcome : Type 0 where
  pub outcome : Outcome
  pub visits : ℕ

-- the check of three records that were read
unfoldable pub checked_by : Vocabulary → Choices → Schema → Condition → Targets → List ℕ → CheckOutcome
checked_by v k s c ts buffer =
    record {
      outcome = reported (once [] (gather (breaches_under_by v k s c ts.scope) ts.list)) buffer;
      visits = begun buffer [] (gather (visits_under_by v k s c ts.scope) ts.list);
    }

abbrev pub checked : Choices → Schema → Condition → Targets → List ℕ → CheckOutcome
checked = checked_by dated

-- where a record is refused no visit is begun
abbrev pub unvisited : ℕ → ℕ → List ℕ → CheckOutcome
unvisited number rec buffer = record { outcome = refusal number rec buffer; visits = 0 }

-- the check with the caller's rules: the records are read in their order, and the first refusal stands
unfoldable pub check_with_by : Vocabulary → ℕ → List ℕ → List ℕ → List ℕ → List ℕ → CheckOutcome
check_with_by v rules schema_bytes condition_bytes target_bytes buffer =
    either (λ r. unvisited r 1 buffer)
    (λ s. either (λ r. unvisited r 2 buffer)
    (λ c. either (λ r. unvisited r 3 buffer) (λ ts. checked_by v (choices_of rules) s c ts buffer) (whole targets.target_record target_bytes))
    (whole condition.condition_record condition_bytes))
    (whole schema.schema_record schema_bytes)

abbrev pub check_with : ℕ → List ℕ → List ℕ → List ℕ → List ℕ → CheckOutcome
check_with = check_with_by dated

-- the check that the Rust measures: no rules
unfoldable pub check : List ℕ → List ℕ → List ℕ → List ℕ → CheckOutcome
check = check_with 0
