use Rattle.condition.specs.Places.{term_in}
use Rattle.messages.specs.Words.{span_in}
use Rattle.nodes.specs.Parts.{leaves_in}
use Rattle.reports.specs.Sink.{sink, push_all}
use Rattle.rules.proofs.AtNode.{LeavesLeft}
use Rattle.rules.specs.Rules.{leaf_breaches}
use Rattle.std.proofs.Common.{◌≡◌}
use Rattle.terms.specs.Settings.{facts_at}
use lib.ListN.{length}
use mathlib.Core.Path.{◌≡◌}
use Rattle.rules.proofs.arithmetic.leaves.Given as goal

abbrev pub invariant-loop-at : goal.invariant-loop-at
invariant-loop-at l =
    let facts = facts_at l.setting in
    let all = leaf_breaches facts (term_in l.setting.condition.bytes.now l.initial.left.first) (span_in l.term.span) in
    (length l.buf ≡ length l.initial.buf) × (length l.table ≡ length l.initial.table)
    × LeavesLeft facts l.setting.condition.bytes.now (span_in l.term.span) (push_all (sink l.initial.buf l.initial.now) all) (sink l.buf l.now) l.table l.left

abbrev pub decreases-loop-at : goal.decreases-loop-at
decreases-loop-at l = length (leaves_in l.setting.condition.bytes.now l.left.count l.left.first)
