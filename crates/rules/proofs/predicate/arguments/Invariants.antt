use Rattle.names.specs.Read.{word_at}
use Rattle.schema.specs.Places.{action_in, found_in}
use Rattle.messages.specs.Words.{span_in}
use Rattle.reports.specs.Sink.{sink, push_all}
use Rattle.rules.specs.Places.{arguments_at}
use Rattle.rules.proofs.Argued.{Arguing}
use Rattle.std.proofs.Common.{◌≡◌, length}
use Rattle.terms.specs.Settings.{facts_at}
use Rattle.rules.proofs.predicate.arguments.Given as goal

-- the arguments that are left, put in, make the whole
abbrev pub invariant-loop-left : goal.invariant-loop-left
invariant-loop-left l =
    let condition = l.setting.condition.bytes.now in
    (length l.buf ≡ length l.initial.buf) × (length l.table ≡ length l.initial.table)
    × Arguing (facts_at l.setting) l.setting.schema.bytes.now condition (span_in l.applied.span) (word_at condition l.applied.name) (found_in (action_in l.setting.schema.bytes.now) l.applied.action) (push_all (sink l.initial.buf l.initial.now) (arguments_at l.setting l.applied)) (sink l.buf l.now) l.table l.left l.at
