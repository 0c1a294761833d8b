-- What the walk of a condition reaches, and the binders that it passes, in its order.
use Rattle.std.specs.Prelude.{ℕ, Bool, true, false, cond, List, [], ◌∷◌, ◌++◌}
use Rattle.std.proofs.Math.Option.{Option, none, some}
use Rattle.names.specs.Lists.{maybe, gather, select}
use Rattle.names.specs.Names.{same}
use Rattle.condition.specs.Condition.{Condition, Term, Aggregate, Binder, Slot, named, param_ref, binder_ref, Annotation, one, two, predicate, comparison, exists, tp, opaque, entity, literal, context_field, scope_field, var, wildcard, array, aggregate, arith, sigil, sum, count, call}

-- an aggregate's own binders
unfoldable pub declared_by : Aggregate → List Binder
declared_by (sum span slot binders body) = binders
declared_by (count span binders body) = binders
declared_by (call span) = []

-- an operand's aggregates (`for_each_operand_agg`): itself, or those of an Arith's left, then right
unfoldable pub operand_aggregates : Term → List Aggregate
operand_aggregates (entity n) = []
operand_aggregates (literal l) = []
operand_aggregates (context_field p) = []
operand_aggregates (scope_field p) = []
operand_aggregates (var v) = []
operand_aggregates wildcard = []
operand_aggregates (array ts) = []
operand_aggregates (aggregate a) = a ∷ []
operand_aggregates (arith op l r) = operand_aggregates l ++ operand_aggregates r
operand_aggregates sigil = []

-- the binders of an operand's aggregates
unfoldable pub operand_binders : Term → List Binder
operand_binders t = gather declared_by (operand_aggregates t)

-- the reached conditions of document 01, in the order of the Rust's `walk` and `descend`
unfoldable mutual
  pub reached : Condition → List Condition
  reached (one k span c) = one k span c ∷ reached c
  reached (two k span l r) = two k span l r ∷ (reached l ++ reached r)
  reached (predicate span own ns act args) = predicate span own ns act args ∷ []
  reached (comparison span op l r) = comparison span op l r ∷ (reached_in l ++ reached_in r)
  reached (exists span b c) = exists span b c ∷ reached c
  reached (tp span s) = tp span s ∷ []
  reached (opaque span) = opaque span ∷ []

  pub reached_in : Term → List Condition
  reached_in (entity n) = []
  reached_in (literal l) = []
  reached_in (context_field p) = []
  reached_in (scope_field p) = []
  reached_in (var v) = []
  reached_in wildcard = []
  reached_in (array ts) = []
  reached_in (aggregate a) = reached_body a
  reached_in (arith op l r) = reached_in l ++ reached_in r
  reached_in sigil = []

  pub reached_body : Aggregate → List Condition
  reached_body (sum span slot bs body) = reached body
  reached_body (count span bs body) = reached body
  reached_body (call span) = []

-- the binders that one reached node declares (`collect_declared_binders`): an Exists its own, a comparison its aggregates', left operand first
unfoldable pub declares : Condition → List Binder
declares (one k span c) = []
declares (two k span l r) = []
declares (predicate span own ns act args) = []
declares (comparison span op l r) = operand_binders l ++ operand_binders r
declares (exists span b c) = b ∷ []
declares (tp span s) = []
declares (opaque span) = []

-- all binders, in the order of the walk
unfoldable pub binders : Condition → List Binder
binders c = gather declares (reached c)

-- a slot with a name
abbrev pub has_name : Slot → Bool
has_name (named name) = true
has_name param_ref = false
has_name binder_ref = false

-- the binders that have a name
unfoldable pub named_ones : List Binder → List Binder
named_ones bs = select (λ b. has_name b.slot) bs

-- what a binder says of a name
unfoldable pub named_here : List ℕ → Annotation → Slot → Option Annotation
named_here name a (named n) = cond (same n name) (some a) none
named_here name a param_ref = none
named_here name a binder_ref = none

-- the annotation of the last binder of a name
unfoldable pub last_named : List ℕ → List Binder → Option Annotation
last_named name [] = none
last_named name (b ∷ bs) = maybe (named_here name b.annotation b.slot) some (last_named name bs)
