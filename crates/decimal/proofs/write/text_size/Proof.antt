-- `decimal::write::text_size` meets its contract. Assumes nothing.
use Rattle.decimal.proofs.Stores.{sizes}
use Rattle.decimal.proofs.write.text_size.Statement.{statement}
use Rattle.decimal.proofs.write.text_size.Tie as tie

pub text_size_spec : {M : Type 1} → statement M
text_size_spec =
    tie.close
    (tie.spec
    (λ c κs. search sizes)
    (λ c κs. search sizes)
    (λ c κs. search sizes)
    (λ c. search sizes)
    (λ c. search sizes)
    (λ c. search sizes)
    (λ c. search sizes))
