-- `walk::either::names_of` meets its contract. Assumes nothing.
use Rattle.std.proofs.Common.{rules}
use Rattle.walk.specs.Laws.Names.{flat_names, own_names}
use Rattle.walk.proofs.either.names_of.Goals as goal

pub returns-in-Flat-clause-names : goal.returns-in-Flat-clause-names
returns-in-Flat-clause-names c = search (rules, flat_names, own_names)

pub returns-in-Own-clause-names : goal.returns-in-Own-clause-names
returns-in-Own-clause-names c = search (rules, flat_names, own_names)
