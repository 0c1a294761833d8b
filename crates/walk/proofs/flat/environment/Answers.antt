-- `walk::flat::environment` meets its contract. Assumes nothing.
use Rattle.walk.proofs.Environments.{beginning}
use Rattle.walk.proofs.flat.environment.Goals as goal

pub declare_places-requires-clause-may_declare : goal.declare_places-requires-clause-may_declare
declare_places-requires-clause-may_declare c = search beginning

pub returns-clause-fits : goal.returns-clause-fits
returns-clause-fits c = search beginning

pub returns-clause-environment : goal.returns-clause-environment
returns-clause-environment c = search beginning
