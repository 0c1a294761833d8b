-- The binders around a reached condition, and the two ways of looking a name up: among all binders of the condition, or among those around the use.
use Rattle.std.specs.Prelude.{ℕ, ◌/◌, ◌%◌, cond, eqb, List, [], ◌∷◌, ◌++◌, map}
use Rattle.condition.specs.Condition.{Condition, Term, Aggregate, Binder, one, two, predicate, comparison, exists, tp, opaque, entity, literal, context_field, scope_field, var, wildcard, array, aggregate, arith, sigil, sum, count, call}
use Rattle.condition.specs.Walk.{reached, binders}

-- a reached condition, and the binders that its names are looked up among: the last of a name counts
pub record Scoped : Type 0 where
  pub node : Condition
  pub around : List Binder

abbrev pub under : List Binder → Condition → Scoped
under bs c = record { node = c; around = bs }

-- the reached conditions in the order of the walk, each with the binders around it, the innermost last: an Exists has its binder around its body, an aggregate
-- its binders around its body
unfoldable mutual
  pub scoped : List Binder → Condition → List Scoped
  scoped bs (one k span c) = under bs (one k span c) ∷ scoped bs c
  scoped bs (two k span l r) = under bs (two k span l r) ∷ (scoped bs l ++ scoped bs r)
  scoped bs (predicate span own ns act args) = under bs (predicate span own ns act args) ∷ []
  scoped bs (comparison span op l r) = under bs (comparison span op l r) ∷ (scoped_in bs l ++ scoped_in bs r)
  scoped bs (exists span b c) = under bs (exists span b c) ∷ scoped (bs ++ (b ∷ [])) c
  scoped bs (tp span s) = under bs (tp span s) ∷ []
  scoped bs (opaque span) = under bs (opaque span) ∷ []

  pub scoped_in : List Binder → Term → List Scoped
  scoped_in bs (entity n) = []
  scoped_in bs (literal l) = []
  scoped_in bs (context_field p) = []
  scoped_in bs (scope_field p) = []
  scoped_in bs (var v) = []
  scoped_in bs wildcard = []
  scoped_in bs (array ts) = []
  scoped_in bs (aggregate a) = scoped_body bs a
  scoped_in bs (arith op l r) = scoped_in bs l ++ scoped_in bs r
  scoped_in bs sigil = []

  pub scoped_body : List Binder → Aggregate → List Scoped
  scoped_body bs (sum span slot own body) = scoped (bs ++ own) body
  scoped_body bs (count span own body) = scoped (bs ++ own) body
  scoped_body bs (call span) = []

-- how a name is bound: flat, by the last binder of that name in the whole condition, as in the Rust; or by the innermost one around its use
pub data Binding : Type 0 where
  flat own : Binding

-- what a caller's rules choose: bit 1 (value 2) gives each binder its own body
unfoldable pub binding_of : ℕ → Binding
binding_of rules = cond (eqb (rules / 2 % 2) 1) own flat

-- the reached conditions, each with the binders that its names are looked up among
unfoldable pub nodes_by : Binding → Condition → List Scoped
nodes_by flat c = map (under (binders c)) (reached c)
nodes_by own c = scoped [] c
