-- A call of itself has less left.
use Rattle.showrecord.proofs.layout.Walk.+items.Given as goal

abbrev pub decreases-items : goal.decreases-items
decreases-items g l = l.left
