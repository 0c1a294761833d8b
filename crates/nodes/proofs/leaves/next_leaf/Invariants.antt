use Rattle.std.proofs.Common.{◌+◌, ◌-◌, length}
use Rattle.nodes.specs.Parts.{operand_leaves, leaves_in}
use Rattle.nodes.proofs.TermsLeft.{TermsLeft}
use Rattle.nodes.proofs.leaves.next_leaf.Given as goal

-- the term here and those further on have the leaves of all
abbrev pub invariant-loop-at : goal.invariant-loop-at
invariant-loop-at l = TermsLeft operand_leaves l.s (leaves_in l.s l.count l.first) (l.further + 1) l.at

abbrev pub decreases-loop-at : goal.decreases-loop-at
decreases-loop-at l = length l.s - l.at
