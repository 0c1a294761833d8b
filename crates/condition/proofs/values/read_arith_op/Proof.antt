-- `condition::values::read_arith_op` meets its contract. Assumes nothing.
use Rattle.condition.proofs.Given.{ops}
use Rattle.condition.proofs.values.read_arith_op.Statement.{statement}
use Rattle.condition.proofs.values.read_arith_op.Tie as tie

pub read_arith_op_spec : {M : Type 1} → statement M
read_arith_op_spec =
    tie.close
    (tie.spec
    (λ c. search ops)
    (λ c κs. search ops)
    (λ c. search ops))
