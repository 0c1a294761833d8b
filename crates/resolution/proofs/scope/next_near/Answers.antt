use Rattle.resolution.proofs.Admitted.{scanning}
use Rattle.resolution.proofs.scope.next_near.Goals as goal

pub loop-left-init : goal.loop-left-init
loop-left-init c = search scanning

pub past_word-next-requires : goal.past_word-next-requires
past_word-next-requires c = search scanning

pub nearer-near-requires : goal.nearer-near-requires
nearer-near-requires c = search scanning

pub returns-then-admits_near : goal.returns-then-admits_near
returns-then-admits_near c = search scanning

pub loop-left-preserved : goal.loop-left-preserved
loop-left-preserved c = search scanning

pub returns : goal.returns
returns c = search scanning
