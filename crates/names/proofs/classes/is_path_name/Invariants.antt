-- From the place on, what is left is a path name's rest just where the whole is a path name.
use Rattle.std.proofs.Common.{◌≡◌, drop}
use Rattle.names.specs.Names.{path_name}
use Rattle.names.specs.Class.{path_from}
use Rattle.names.proofs.classes.is_path_name.Given as goal

abbrev pub invariant-loop-b : goal.invariant-loop-b
invariant-loop-b l = path_from l.place (drop l.b-index l.s) ≡ path_name l.s
