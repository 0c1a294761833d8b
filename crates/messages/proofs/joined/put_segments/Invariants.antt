use Rattle.std.proofs.Common.{◌-◌}
use Rattle.names.specs.Names.{identifier}
use Rattle.names.specs.Fields.{string_of}
use Rattle.names.specs.Read.{row_in}
use Rattle.messages.specs.Joined.{behind}
use Rattle.messages.specs.Laws.Segments.{Behind}
use Rattle.messages.proofs.joined.put_segments.Given as goal

-- what was written and what is left make the whole
abbrev pub invariant-loop : goal.invariant-loop
invariant-loop l = Behind l.s l.initial.out l.start (behind (row_in (string_of identifier) l.s l.count l.first)) l.out l.next l.at (l.count - l.counter)
