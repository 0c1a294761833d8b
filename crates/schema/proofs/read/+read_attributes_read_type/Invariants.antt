use Rattle.std.proofs.Common.{◌≡◌, ◌+◌, ◌-◌}
use Rattle.names.specs.Read.{ending, earlier}
use Rattle.schema.specs.Schema.{attributes, attributes_of, type_at}
use Rattle.schema.proofs.read.+read_attributes_read_type.Given as goal

-- twice the level left; the attributes stand between two levels
abbrev pub decreases-read_attributes : goal.decreases-read_attributes
decreases-read_attributes l = l.left + l.left + 1

abbrev pub decreases-read_type : goal.decreases-read_type
decreases-read_type l = l.left + l.left

-- the attributes that are left answer as all of them do
abbrev pub invariant-read_attributes-loop : goal.invariant-read_attributes-loop
invariant-read_attributes-loop l =
    ending (attributes (type_at l.left) l.s l.start) ≡ ending (attributes_of (type_at l.left) (l.end - l.counter) (earlier l.s l.before) l.s l.at)
