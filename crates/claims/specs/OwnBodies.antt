-- Binders in their own bodies: where the flat check and the own-body check are equal. The request's four conditions are `each_once`, `none_like_input`,
-- `none_in_arguments` and `each_in_body`; `FourHold` says all four of a whole record, and `Request` that then both checks and both Sums answer alike. `ChecksAlike`
-- and `SumsAlike` have fewer. `proofs/OwnBodies.antt` proves them.
use Rattle.std.specs.Prelude.{ℕ, ◌≡◌, Bool, true, false, ◌&&◌, ◌||◌, not, List, [], ◌∷◌, ◌++◌}
use Rattle.std.proofs.Math.Option.{Option, some}
use Rattle.names.specs.Lists.{maybe, any_of, every}
use Rattle.names.specs.Names.{same}
use Rattle.types.specs.Types.{dated, Profile}
use Rattle.schema.specs.Schema.{Schema, Action}
use Rattle.schema.specs.Find.{find_action}
use Rattle.targets.specs.Targets.{Target, Targets, Scope}
use Rattle.condition.specs.Condition.{Condition, Slot, Binder, Term, Terms, Aggregate, Arguments, named, param_ref, binder_ref, one, two, predicate, comparison, exists, tp, opaque, no_argument, argument, entity, literal, context_field, scope_field, var, wildcard, array, aggregate, arith, sigil, nil, cons, sum, count, call}
use Rattle.condition.specs.Walk.{reached, binders, last_named}
use Rattle.condition.specs.Places.{is_record, record_in}
use Rattle.walk.specs.Scopes.{scoped, Binding, flat, own}
use Rattle.terms.specs.Terms.{facts_among, input_type}
use Rattle.rules.specs.Rules.{node_breaches}
use Rattle.reports.specs.Pairs.{◌∈◌}
use Rattle.typecheck.specs.Check.{Choices, profile_of, is_checked, checked, check_with}
use Rattle.sums.specs.Sums.{summand_binders, breaches, sums_with}
use Rattle.claims.specs.Breaches.{Accepted}

-- ---- each name is declared once

-- a slot with this name
abbrev pub is_named : List ℕ → Slot → Bool
is_named v (named name) = same name v
is_named v param_ref = false
is_named v binder_ref = false

-- one of some binders has this name
unfoldable pub declared : List ℕ → List Binder → Bool
declared v bs = any_of (λ b. is_named v b.slot) bs

-- a slot's name is declared by one of some binders; a slot without a name declares nothing
abbrev pub declared_again : Slot → List Binder → Bool
declared_again (named name) bs = declared name bs
declared_again param_ref bs = false
declared_again binder_ref bs = false

unfoldable pub each_once : List Binder → Bool
each_once [] = true
each_once (b ∷ bs) = not (declared_again b.slot bs) && each_once bs

-- ---- no binder is named like an input field

-- a target that is declared and not skipped has an input field of this name
unfoldable pub has_input : Schema → Scope → List ℕ → Target → Bool
has_input s scope name t = is_checked s scope t && maybe false (λ type. true) (input_type (find_action s t.namespace t.id) name)

abbrev pub like_input : Schema → Targets → Slot → Bool
like_input s ts (named name) = any_of (has_input s ts.scope name) ts.list
like_input s ts param_ref = false
like_input s ts binder_ref = false

unfoldable pub none_like_input : Schema → Targets → List Binder → Bool
none_like_input s ts bs = every (λ b. not (like_input s ts b.slot)) bs

-- ---- no aggregate stands in a predicate argument

-- the aggregates of a term, also under arithmetic and in arrays, and not those in their bodies
unfoldable mutual
  pub aggregates_in : Term → List Aggregate
  aggregates_in (entity n) = []
  aggregates_in (literal l) = []
  aggregates_in (context_field p) = []
  aggregates_in (scope_field p) = []
  aggregates_in (var v) = []
  aggregates_in wildcard = []
  aggregates_in (array ts) = aggregates_among ts
  aggregates_in (aggregate a) = a ∷ []
  aggregates_in (arith op l r) = aggregates_in l ++ aggregates_in r
  aggregates_in sigil = []

  pub aggregates_among : Terms → List Aggregate
  aggregates_among nil = []
  aggregates_among (cons t ts) = aggregates_in t ++ aggregates_among ts

unfoldable pub argument_aggregates : Arguments → List Aggregate
argument_aggregates no_argument = []
argument_aggregates (argument name field value rest) = aggregates_in value ++ argument_aggregates rest

abbrev pub is_none : {A : Type 0} → List A → Bool
is_none [] = true
is_none (a ∷ rest) = false

-- a node whose arguments, if it is a predicate, hold none
unfoldable pub bare_arguments : Condition → Bool
bare_arguments (one k at c) = true
bare_arguments (two k at l r) = true
bare_arguments (predicate at span ns act args) = is_none (argument_aggregates args)
bare_arguments (comparison at op l r) = true
bare_arguments (exists at b c) = true
bare_arguments (tp at s) = true
bare_arguments (opaque at) = true

-- of every reached condition. What the walk of a record does not reach stands in the body of an aggregate in an argument: where this holds, all is reached
unfoldable pub none_in_arguments : Condition → Bool
none_in_arguments c = every bare_arguments (reached c)

-- ---- each use lies in its binder's body

-- the names of a term that is an operand: its own, or those under its arithmetic. In an array no name has a type
unfoldable pub operand_uses : Term → List (List ℕ)
operand_uses (entity n) = []
operand_uses (literal l) = []
operand_uses (context_field p) = []
operand_uses (scope_field p) = []
operand_uses (var v) = v ∷ []
operand_uses wildcard = []
operand_uses (array ts) = []
operand_uses (aggregate a) = []
operand_uses (arith op l r) = operand_uses l ++ operand_uses r
operand_uses sigil = []

-- the name of a term that is an argument; arithmetic is Long whatever stands in it
abbrev pub argument_use : Term → List (List ℕ)
argument_use (entity n) = []
argument_use (literal l) = []
argument_use (context_field p) = []
argument_use (scope_field p) = []
argument_use (var v) = v ∷ []
argument_use wildcard = []
argument_use (array ts) = []
argument_use (aggregate a) = []
argument_use (arith op l r) = []
argument_use sigil = []

unfoldable pub argument_uses : Arguments → List (List ℕ)
argument_uses no_argument = []
argument_uses (argument name field value rest) = argument_use value ++ argument_uses rest

abbrev pub slot_uses : Slot → List (List ℕ)
slot_uses (named name) = name ∷ []
slot_uses param_ref = []
slot_uses binder_ref = []

-- the names that a node uses in a check
unfoldable pub uses : Condition → List (List ℕ)
uses (one k at c) = []
uses (two k at l r) = []
uses (predicate at span ns act args) = argument_uses args
uses (comparison at op l r) = operand_uses l ++ operand_uses r
uses (exists at b c) = []
uses (tp at s) = slot_uses s
uses (opaque at) = []

-- a name of one of all binders is also one of those around; a name that none of all has is free
unfoldable pub covered : List Binder → List Binder → List ℕ → Bool
covered all around v = not (declared v all) || declared v around

-- each name that a check uses
unfoldable pub uses_in_bodies : List Binder → Condition → Bool
uses_in_bodies all c = every (λ n. every (covered all n.around) (uses n.node)) (scoped [] c)

-- the aggregates that Sums looks at in a node
unfoldable pub aggregates_of : Condition → List Aggregate
aggregates_of (one k at c) = []
aggregates_of (two k at l r) = []
aggregates_of (predicate at span ns act args) = argument_aggregates args
aggregates_of (comparison at op l r) = aggregates_in l ++ aggregates_in r
aggregates_of (exists at b c) = []
aggregates_of (tp at s) = []
aggregates_of (opaque at) = []

-- a summand lies in the body of its aggregate's own list also
abbrev pub summand_covered : List Binder → List Binder → Aggregate → Bool
summand_covered all around (sum at (named name) list body) = covered all (around ++ list) name
summand_covered all around (sum at param_ref list body) = true
summand_covered all around (sum at binder_ref list body) = true
summand_covered all around (count at list body) = true
summand_covered all around (call at) = true

-- each name that Sums uses
unfoldable pub summands_in_bodies : List Binder → Condition → Bool
summands_in_bodies all c = every (λ n. every (summand_covered all n.around) (aggregates_of n.node)) (scoped [] c)

abbrev pub each_in_body : List Binder → Condition → Bool
each_in_body all c = uses_in_bodies all c && summands_in_bodies all c

-- ---- arrays: what is read holds no aggregate in one, a tree might

-- an operand whose arrays hold none
unfoldable pub bare_arrays : Term → Bool
bare_arrays (entity n) = true
bare_arrays (literal l) = true
bare_arrays (context_field p) = true
bare_arrays (scope_field p) = true
bare_arrays (var v) = true
bare_arrays wildcard = true
bare_arrays (array ts) = is_none (aggregates_among ts)
bare_arrays (aggregate a) = true
bare_arrays (arith op l r) = bare_arrays l && bare_arrays r
bare_arrays sigil = true

unfoldable pub bare_operands : Condition → Bool
bare_operands (one k at c) = true
bare_operands (two k at l r) = true
bare_operands (predicate at span ns act args) = true
bare_operands (comparison at op l r) = bare_arrays l && bare_arrays r
bare_operands (exists at b c) = true
bare_operands (tp at s) = true
bare_operands (opaque at) = true

unfoldable pub none_in_arrays : Condition → Bool
none_in_arrays c = every bare_operands (reached c)

-- ---- all binders of a condition, also those that the walk does not pass

unfoldable mutual
  pub all_binders : Condition → List Binder
  all_binders (one k at c) = all_binders c
  all_binders (two k at l r) = all_binders l ++ all_binders r
  all_binders (predicate at span ns act args) = argument_binders args
  all_binders (comparison at op l r) = term_binders l ++ term_binders r
  all_binders (exists at b c) = b ∷ all_binders c
  all_binders (tp at s) = []
  all_binders (opaque at) = []

  pub argument_binders : Arguments → List Binder
  argument_binders no_argument = []
  argument_binders (argument name field value rest) = term_binders value ++ argument_binders rest

  pub term_binders : Term → List Binder
  term_binders (entity n) = []
  term_binders (literal l) = []
  term_binders (context_field p) = []
  term_binders (scope_field p) = []
  term_binders (var v) = []
  term_binders wildcard = []
  term_binders (array ts) = element_binders ts
  term_binders (aggregate a) = aggregate_binders a
  term_binders (arith op l r) = term_binders l ++ term_binders r
  term_binders sigil = []

  pub element_binders : Terms → List Binder
  element_binders nil = []
  element_binders (cons t ts) = term_binders t ++ element_binders ts

  pub aggregate_binders : Aggregate → List Binder
  aggregate_binders (sum at s list body) = list ++ all_binders body
  aggregate_binders (count at list body) = list ++ all_binders body
  aggregate_binders (call at) = []

-- ---- the statements

-- the request's four conditions, over all binders of a record, under a target list. The uses are those at reached conditions: no other is ever looked up
pub record FourHold (s : Schema) (ts : Targets) (c : Condition) : Type 0 where
  pub once : each_once (all_binders c) ≡ true
  pub apart : none_like_input s ts (all_binders c) ≡ true
  pub outside : none_in_arguments c ≡ true
  pub inside : each_in_body (all_binders c) c ≡ true

-- what a node breaks depends on the binders by the last one of each name that it uses, and on nothing else of them
abbrev pub ByUses : Type 0
ByUses =
    (p : Profile) (s : Schema) (scope : Scope) (a : Option Action) (bs cs : List Binder) (x : Condition)
    → ((v : List ℕ) → v ∈ uses x → last_named v bs ≡ last_named v cs)
    → node_breaches (facts_among dated p s scope a bs) x ≡ node_breaches (facts_among dated p s scope a cs) x

-- in its own body a summand's binder is the last of its name in the aggregate's own list, else the innermost around the aggregate, else there is none
abbrev pub SummandBinder : Type 0
SummandBinder =
    (name : List ℕ) (bs list : List Binder)
    → last_named name (summand_binders own bs list) ≡ maybe (last_named name bs) some (last_named name list)

-- what the caller chooses, by either way of binding a name
abbrev pub choices : Binding → Profile → Choices
choices binding p = record { profile = p; binding = binding }

-- the check: where each name of the walk's binders is declared once and each name that it uses lies in its binder's body, the outcomes are equal, which are the
-- answer with its visits and each byte of the buffer, in any buffer
abbrev pub ChecksAlike : Type 0
ChecksAlike =
    (c : Condition) → each_once (binders c) ≡ true → uses_in_bodies (binders c) c ≡ true
    → (p : Profile) (s : Schema) (ts : Targets) (buffer : List ℕ) → checked (choices own p) s c ts buffer ≡ checked (choices flat p) s c ts buffer

-- Sums: where each is declared once, no aggregate stands in a predicate argument or in an array, and each summand lies in its binder's body, the reports are equal
abbrev pub SumsAlike : Type 0
SumsAlike =
    (c : Condition) → each_once (binders c) ≡ true → none_in_arguments c ≡ true → none_in_arrays c ≡ true → summands_in_bodies (binders c) c ≡ true
    → breaches own c ≡ breaches flat c

-- a condition that was read holds no aggregate in an array
abbrev pub ReadBare : Type 0
ReadBare = (condition_bytes : List ℕ) → is_record condition_bytes ≡ true → none_in_arrays (record_in condition_bytes) ≡ true

-- the same of whole runs, over the bytes of the records, by any rules that choose one profile: where the condition is refused, all are the refusal
abbrev pub CheckRunsAlike : Type 0
CheckRunsAlike =
    (condition_bytes : List ℕ) → each_once (binders (record_in condition_bytes)) ≡ true → uses_in_bodies (binders (record_in condition_bytes)) (record_in condition_bytes) ≡ true
    → (rules also : ℕ) → profile_of rules ≡ profile_of also
    → (schema_bytes target_bytes buffer : List ℕ) → check_with rules schema_bytes condition_bytes target_bytes buffer ≡ check_with also schema_bytes condition_bytes target_bytes buffer

abbrev pub SumRunsAlike : Type 0
SumRunsAlike =
    (condition_bytes : List ℕ) → each_once (binders (record_in condition_bytes)) ≡ true → none_in_arguments (record_in condition_bytes) ≡ true
    → summands_in_bodies (binders (record_in condition_bytes)) (record_in condition_bytes) ≡ true
    → (rules also : ℕ) (buffer : List ℕ) → sums_with rules condition_bytes buffer ≡ sums_with also condition_bytes buffer

-- the request: of accepted records for which its four conditions hold, either check and either Sums answers alike, by every profile and in any buffer
pub record BothAlike (schema_bytes condition_bytes target_bytes : List ℕ) : Type 0 where
  pub checks : (rules also : ℕ) → profile_of rules ≡ profile_of also → (buffer : List ℕ) → check_with rules schema_bytes condition_bytes target_bytes buffer ≡ check_with also schema_bytes condition_bytes target_bytes buffer
  pub sums : (rules also : ℕ) (buffer : List ℕ) → sums_with rules condition_bytes buffer ≡ sums_with also condition_bytes buffer

abbrev pub Request : Type 0
Request =
    (schema_bytes condition_bytes target_bytes : List ℕ) (s : Schema) (c : Condition) (ts : Targets)
    → Accepted schema_bytes condition_bytes target_bytes s c ts → FourHold s ts c → BothAlike schema_bytes condition_bytes target_bytes
