use Rattle.resolution.proofs.Admitted.{narrowing}
use Rattle.resolution.proofs.scope.admits_near.Goals as goal

pub returns-in-Absent : goal.returns-in-Absent
returns-in-Absent c = search narrowing

pub returns-in-Member : goal.returns-in-Member
returns-in-Member c = search narrowing

pub returns-in-IsType : goal.returns-in-IsType
returns-in-IsType c = search narrowing
