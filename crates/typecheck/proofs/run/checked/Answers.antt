-- `typecheck::run::checked` meets its contract. Assumes nothing.
use Rattle.typecheck.proofs.Running.{prepared}
use Rattle.typecheck.proofs.run.checked.Goals as goal

pub all_targets-end-requires : goal.all_targets-end-requires
all_targets-end-requires c = search (prepared, c.default.ensures)

pub returns : goal.returns
returns c = search (prepared, c.default.ensures)
