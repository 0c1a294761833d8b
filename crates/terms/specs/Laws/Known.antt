-- What is known of a setting, out of its truncated form. Assumes nothing.
use Rattle.std.specs.Prelude.{◌≡◌, true, ◌<◌, List, ℕ, length}
use Rattle.std.proofs.Props.{props}
use Rattle.std.specs.Coded.{le_prop}
use Rattle.std.proofs.Math.Logic.{∥∥₁_elim, ∥∥₁_map}
use Rattle.schema.specs.Places.{is_action, found_stands, ActionsOf}
use Rattle.schema.specs.Laws.Once.{actions_prop}
use Rattle.walk.specs.Index.{nodes_of}
use Rattle.walk.specs.Enclosing.{binding_in, Names}
use Rattle.walk.specs.Laws.Mere.{mere_names}
use Rattle.terms.specs.Facts.{Ready, Known}
use Rattle.terms.specs.declared.Common.{Common}
use Rattle.terms.specs.declared.Facts.{Facts}

module _ (s c env : List ℕ) where
  pub mere_ready : (common : Common) → ∥ Ready s c env common ∥₁ → Ready s c env common
  mere_ready common t = record {
    schema = ∥∥₁_elim t (hlevel props) (λ r. r.schema);
    condition = ∥∥₁_elim t (hlevel props) (λ r. r.condition);
    named = mere_names c (binding_in common.binding) env (∥∥₁_map t (λ r. r.named));
    actions = ∥∥₁_elim t (actions_prop s common.actions) (λ r. r.actions);
  }

  pub mere_known : (f : Facts) → ∥ Known s c env f ∥₁ → Known s c env f
  mere_known f t = record {
    ready = mere_ready f.common (∥∥₁_map t (λ k. k.ready));
    action = ∥∥₁_elim t (hlevel props) (λ k. k.action);
    node = ∥∥₁_elim t (hlevel (props, le_prop)) (λ k. k.node);
  }

  -- a part of it by itself, for `search`
  module _ (f : Facts) (t : ∥ Known s c env f ∥₁) where
    pub known_names : Names c (binding_in f.common.binding) env
    known_names = (mere_known f t).ready.named

    pub known_action : found_stands (is_action s) f.action ≡ true
    known_action = (mere_known f t).action

    pub known_node : f.node < length (nodes_of c)
    known_node = (mere_known f t).node

    pub known_actions : ActionsOf s f.common.actions
    known_actions = (mere_known f t).ready.actions
