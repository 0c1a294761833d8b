-- `sums::summand::around` meets its contract. Assumes nothing.
use Rattle.std.proofs.Common.{rules}
use Rattle.walk.specs.Laws.Mere.{mere_names}
use Rattle.sums.proofs.summand.around.Goals as goal

pub bound_by-requires-clause-names : goal.bound_by-requires-clause-names
bound_by-requires-clause-names c = search (rules, mere_names)
