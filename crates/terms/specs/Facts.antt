-- The facts of a target in the code: with the bytes of the schema, the condition and the target record they are the definitions' facts.
use Rattle.std.specs.Prelude.{ℕ, ◌<◌, ◌≡◌, true, List, length}
use Rattle.types.specs.Types.{dated}
use Rattle.types.specs.Meaning.{profile_in}
use Rattle.schema.specs.Places.{is_schema, schema_in, is_action, action_in, found_in, found_stands, ActionsOf}
use Rattle.targets.specs.Targets.{Scope}
use Rattle.targets.specs.Places.{narrowed, targets_in}
use Rattle.condition.specs.Places.{is_record}
use Rattle.walk.specs.Index.{nodes_of}
use Rattle.walk.specs.Enclosing.{around_at, binding_in, Names}
use Rattle.resolution.specs.Places.{typed_of, small_type}
use Rattle.terms.specs.declared.Common.{Common}
use Rattle.terms.specs.declared.Facts.{Facts}
use Rattle.terms.specs.Terms as Terms
use Rattle.names.specs.Read.{Found}
use Rattle.resolution.specs.Coded.{Typed}

-- the narrowing of each side
abbrev pub scope_in : List ℕ → Facts → Scope
scope_in n f = record { principal = narrowed n f.principal; resource = narrowed n f.resource }

-- of the schema s, the condition c and the targets n; their binders are those that names are looked up among at the reached condition, which the table has
-- (`named`, below)
abbrev pub facts_in : List ℕ → List ℕ → List ℕ → Facts → Terms.Facts
facts_in s c n f = record { vocabulary = dated; profile = profile_in f.common.profile; schema = schema_in s; scope = scope_in n f; action = found_in (action_in s) f.action; binders = around_at (binding_in f.common.binding) c f.node }

-- the same at another reached condition
abbrev pub at_node : Facts → ℕ → Facts
at_node f i = record { action = f.action; principal = f.principal; resource = f.resource; common = f.common; node = i }

-- what is made ready once for all targets: the records are accepted, the table has the binders of names, and the row is that of the schema's actions
pub record Ready (s c env : List ℕ) (common : Common) : Type 0 where
  pub schema : is_schema s ≡ true
  pub condition : is_record c ≡ true
  pub named : Names c (binding_in common.binding) env
  pub actions : ActionsOf s common.actions

-- what must hold of the facts of a target: that, its action stands in the schema, and there is such a reached condition
pub record Known (s c env : List ℕ) (f : Facts) : Type 0 where
  pub ready : Ready s c env f.common
  pub action : found_stands (is_action s) f.action ≡ true
  pub node : f.node < length (nodes_of c)

-- the facts of a target: its action, the scope of the target record, and what all targets have in common, at the first reached condition
pub record FactsOf (n : List ℕ) (found : Found) (common : Common) (f : Facts) : Type 0 where
  pub action : f.action ≡ found
  pub shared : f.common ≡ common
  pub scope : scope_in n f ≡ (targets_in n).scope
  pub node : f.node ≡ 0

-- a name's type, which needs no scope
pub record NameTyped (s c : List ℕ) (f : Facts) (name : List ℕ) (r : Typed) : Type 0 where
  pub value : (n : List ℕ) → typed_of s c r ≡ Terms.var_type (facts_in s c n f) name
  pub small : small_type (typed_of s c r)
