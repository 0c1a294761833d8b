-- `decimal::write::put_written` meets its contract. Assumes nothing.
use Rattle.decimal.proofs.Stores.{signs}
use Rattle.decimal.proofs.write.put_written.Statement.{statement}
use Rattle.decimal.proofs.write.put_written.Tie as tie

pub put_written_spec : {M : Type 1} → statement M
put_written_spec =
    tie.close
    (tie.spec
    (λ c κs. search signs)
    (λ c κs. search signs)
    (λ c. search signs)
    (λ c κs. search signs)
    (λ c. search signs)
    (λ c. search signs)
    (λ c κs. search signs)
    (λ c. search signs)
    (λ c. search signs))
