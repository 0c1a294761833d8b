use Rattle.operands.proofs.Written.{placing}
use Rattle.operands.proofs.text.place_type.Goals as goal

pub returns-then-out-long : goal.returns-then-out-long
returns-then-out-long c = search placing
