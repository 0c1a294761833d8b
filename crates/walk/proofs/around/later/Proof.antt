-- `walk::around::later` meets its contract. Assumes nothing.
use mathlib.Core.Path.{◌≡◌, sym, ap, ◌∙◌}
use mathlib.Core.Bool.{Bool, true, false, cond}
use borrow.Author.Rules.{rules}
use Rattle.nodes.specs.declared.Bound.{Bound}
use Rattle.walk.specs.Enclosing.{is_bound, later_of}
use Rattle.walk.proofs.around.later.Statement.{statement}
use Rattle.walk.proofs.around.later.Tie as tie

module _ (before here : Bound) (b : Bool) (e : b ≡ is_bound here) where
  taken : b ≡ true → here ≡ later_of before here
  unfolding later_of
  taken h = ap (λ t. cond t here before) (sym h ∙ e)

  left : b ≡ false → before ≡ later_of before here
  unfolding later_of
  left h = ap (λ t. cond t here before) (sym h ∙ e)

ruleset steps = (rules, taken, left)

pub later_spec : {M : Type 1} → statement M
later_spec = tie.close (tie.spec (λ c κs. search rules) (λ c. search steps) (λ c. search steps))
