-- `decimal::write::put_shown` meets its contract. Assumes nothing.
use Rattle.decimal.proofs.Stores.{parts}
use Rattle.decimal.proofs.write.put_shown.Statement.{statement}
use Rattle.decimal.proofs.write.put_shown.Tie as tie

pub put_shown_spec : {M : Type 1} → statement M
put_shown_spec =
    tie.close
    (tie.spec
    (λ c κs. search parts)
    (λ c κs. search parts)
    (λ c. search parts)
    (λ c. search parts)
    (λ c κs. search parts)
    (λ c. search parts)
    (λ c. search parts))
