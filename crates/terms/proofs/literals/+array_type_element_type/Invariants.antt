use Rattle.std.proofs.Common.{◌+◌, ◌*◌, ◌-◌}
use Rattle.terms.proofs.Arrays.{Left}
use Rattle.terms.proofs.literals.+array_type_element_type.Given as goal

-- the levels left fall from an array to its elements
abbrev pub decreases-array_type : goal.decreases-array_type
decreases-array_type l = 2 * l.left + 1

abbrev pub decreases-element_type : goal.decreases-element_type
decreases-element_type l = 2 * l.left

-- what was seen and what is left make the array's type
abbrev pub invariant-array_type-loop : goal.invariant-array_type-loop
invariant-array_type-loop l = Left l.schema l.condition l.left l.start (l.end - l.counter) l.at l.seen
