use Rattle.terms.proofs.Fields.{free_names}
use Rattle.terms.proofs.env.free_type.Goals as goal

pub returns-in_err-action : goal.returns-in_err-action
returns-in_err-action c = search free_names
