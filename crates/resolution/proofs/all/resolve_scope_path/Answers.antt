-- `resolution::all::resolve_scope_path` meets its contract. Assumes nothing.
use Rattle.resolution.proofs.AllTypes.{whole}
use Rattle.resolution.proofs.all.resolve_scope_path.Goals as goal

pub returns-in_default-clause-result_value : goal.returns-in_default-clause-result_value
returns-in_default-clause-result_value c = search whole

pub over_types-requires : goal.over_types-requires
over_types-requires c = search whole
