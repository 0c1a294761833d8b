-- `reports::buffer::append_report` meets its contract: its branches are those of `append`. Assumes nothing.
use Rattle.reports.specs.Laws.Sinks.{header_room, message_room, count_room, append_stored, append_stopped}
use borrow.Author.Rules.{rules}
use Rattle.reports.proofs.buffer.append_report.Goals as goal

ruleset steps = (rules, header_room, message_room, count_room, append_stored, append_stopped)

pub put_header-at-requires : goal.put_header-at-requires
put_header-at-requires c = search steps

pub put-next-requires : goal.put-next-requires
put-next-requires c = search steps

pub one_more-requires : goal.one_more-requires
one_more-requires c = search steps

pub returns-then-has_room : goal.returns-then-has_room
returns-then-has_room c = search steps

pub returns : goal.returns
returns c = search steps
