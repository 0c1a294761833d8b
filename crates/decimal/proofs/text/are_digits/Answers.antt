-- Whether all are digits. Assumes nothing.
use Rattle.std.proofs.Common.{◌≡◌, ◌&&◌, ◌∙◌, ap, rules, ℕ, List, [], ◌∷◌}
use Rattle.std.proofs.Math.Path.{refl}
use Rattle.std.specs.List.{list_all}
use Rattle.std.proofs.lemmas.Iterator.{YieldsList-from_slice}
use Rattle.std.proofs.lemmas.Iterator.Search.{all_from_yields_List}
use Rattle.names.specs.Lists.{every}
use Rattle.decimal.specs.Decimal.{digit}
use Rattle.decimal.proofs.text.are_digits.Goals as goal

each : (w : List ℕ) → list_all digit w ≡ every digit w
unfolding every
each [] = refl
each (b ∷ w) = ap (λ r. digit b && r) (each w)

pub returns : goal.returns
returns c = all_from_yields_List digit _ _ _ c.all.ensures.ran (YieldsList-from_slice c.args.w.now cc) (λ x b q k. search (rules)) ∙ each c.args.w.now
