-- The facts of a target in the code are those of the definitions. Assumes nothing.
use Rattle.std.specs.Prelude.{◌≡◌, List, ℕ}
use Rattle.types.specs.Types.{dated}
use Rattle.types.specs.Meaning.{profile_in}
use Rattle.schema.specs.Places.{schema_in, action_in, found_in}
use Rattle.targets.specs.Places.{targets_in}
use Rattle.walk.specs.Enclosing.{around_at, binding_in}
use Rattle.terms.specs.Terms.{facts_among}
use Rattle.terms.specs.Facts.{facts_in, FactsOf}
use Rattle.terms.specs.declared.Common.{Common}
use Rattle.terms.specs.declared.Facts.{Facts}
use Rattle.names.specs.Read.{Found}

-- at the first reached condition
pub facts_mean : (s c n : List ℕ) (found : Found) (common : Common) (f : Facts) → FactsOf n found common f
    → facts_in s c n f ≡ facts_among dated (profile_in common.profile) (schema_in s) (targets_in n).scope (found_in (action_in s) found) (around_at (binding_in common.binding) c 0)
facts_mean s c n found common f k = λ i. record { vocabulary = dated; profile = profile_in (k.shared i).profile; schema = schema_in s; scope = k.scope i; action = found_in (action_in s) (k.action i); binders = around_at (binding_in (k.shared i).binding) c (k.node i) }
