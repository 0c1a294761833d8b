-- What is known of a target that is checked. The structs of the code name it, so it names none of
-- them.
use Rattle.std.specs.Prelude.{ℕ, ◌<◌, List, length}
use Rattle.walk.specs.Index.{nodes_of}
use Rattle.terms.specs.declared.Facts.{Facts}
use Rattle.terms.specs.Facts.{at_node, Known}

-- what is known of the facts of a target, at whatever reached condition
pub record KnownUnder (s c env : List ℕ) (f : Facts) : Type 0 where
  pub at : (i : ℕ) → i < length (nodes_of c) → Known s c env (at_node f i)
