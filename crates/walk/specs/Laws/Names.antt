-- The table that names are looked up in, and what is looked up, by how a name is bound. Assumes nothing.
use Rattle.std.specs.Prelude.{◌≡◌, List, ℕ, ◌/◌, ◌%◌}
use Rattle.std.proofs.Common.{ne_eqb}
use Rattle.walk.specs.declared.Binding as declared
use Rattle.walk.specs.declared.Binding.TheVariants as code
use Rattle.nodes.specs.declared.Bound.{Bound}
use Rattle.condition.specs.Walk.{binders, last_named}
use Rattle.condition.specs.Places.{record_in}
use Rattle.nodes.specs.Parts.{BoundBy}
use Rattle.walk.specs.Scopes.{own, binding_of}
use Rattle.walk.specs.Environment.{Environment}
use Rattle.walk.specs.Enclosing.{binding_in, around_at, Bodies, Names}

module _ (s table : List ℕ) (binding : declared.Binding) where
  module _ (is : binding ≡ code.Flat) where
    pub flat_table : Names s (binding_in binding) table → Environment s (binders (record_in s)) table
    unfolding binding_in Names
    flat_table h = rw is at h

    pub flat_names : Environment s (binders (record_in s)) table → Names s (binding_in binding) table
    unfolding binding_in Names
    flat_names h = rw is h

  module _ (is : binding ≡ code.Own) where
    pub own_table : Names s (binding_in binding) table → Bodies s table
    unfolding binding_in Names
    own_table h = rw is at h

    pub own_names : Bodies s table → Names s (binding_in binding) table
    unfolding binding_in Names
    own_names h = rw is h

module _ (s : List ℕ) (node : ℕ) (name : List ℕ) (r : Bound) (binding : declared.Binding) where
  pub flat_bound : binding ≡ code.Flat → BoundBy s (last_named name (binders (record_in s))) r → BoundBy s (last_named name (around_at (binding_in binding) s node)) r
  unfolding binding_in around_at
  flat_bound is y = rw is y

  pub own_bound : binding ≡ code.Own → BoundBy s (last_named name (around_at own s node)) r → BoundBy s (last_named name (around_at (binding_in binding) s node)) r
  unfolding binding_in
  own_bound is y = rw is y

-- what the rules choose
module _ (rules : ℕ) where
  pub chosen_own : rules / 2 % 2 ≡ 1 → binding_in code.Own ≡ binding_of rules
  unfolding binding_in binding_of
  chosen_own h = rw h

  pub chosen_flat : (rules / 2 % 2 ≡ 1 → ⊥) → binding_in code.Flat ≡ binding_of rules
  unfolding binding_in binding_of
  chosen_flat h = rw (ne_eqb (rules / 2 % 2) 1 h)
