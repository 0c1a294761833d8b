-- A text that starts with a minus is what the definition says. Assumes nothing.
use Rattle.std.proofs.Common.{◌≡◌, ◌∙◌, rules, ℕ, List, [], ◌∷◌}
use Rattle.std.proofs.Math.Path.{refl}
use lib.ListN.{take}
use lib.Dec.{eqb}
use lib.Pointwise.{pointwise}
use Rattle.decimal.specs.Decimal.{minus}
use Rattle.decimal.proofs.text.has_minus.Goals as goal

starts : (w : List ℕ) → pointwise eqb (45 ∷ []) (take 1 w) ≡ minus w
unfolding minus
starts [] = refl
starts (b ∷ w) = grind (rules)

pub returns : goal.returns
returns c = c.starts_with.ensures.value ∙ starts c.args.w.now
