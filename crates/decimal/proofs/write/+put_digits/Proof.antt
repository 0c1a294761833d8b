-- `decimal::write::put_digits` meets its contract: a call of itself has a digit less to store. Assumes nothing.
use Prim.Native.Nat.{ℕ, ◌<◌}
use borrow.Fn.Kinds.{In}
use borrow.Fn.PlainCycle.{Measures, is, falls, and}
use Rattle.decimal.proofs.write.put_digits.Reads as put-digits
use Rattle.decimal.proofs.write.put_digits.Kinds as put-digits-kinds
use Rattle.decimal.proofs.write.+put_digits.Lts-put_digits as put-digits-lts
use Rattle.decimal.proofs.write.+put_digits.{statement}
use Rattle.decimal.proofs.write.+put_digits.Tie.{close}
use Rattle.decimal.proofs.Stores.{digits}

abbrev μ-put-digits : Measures 1 put-digits-kinds.ps ℕ
μ-put-digits κs a = a.1.1.0

abbrev put_digits_at : ℕ → In 1 put-digits-kinds.ps
put_digits_at t = and 1 put-digits-kinds.ps (is 1 put-digits-kinds.ps μ-put-digits t) put-digits.Pre

abbrev put_digits_below : ℕ → In 1 put-digits-kinds.ps
put_digits_below t = and 1 put-digits-kinds.ps (falls 1 put-digits-kinds.ps ◌<◌ μ-put-digits t) put-digits.Pre

pub +put_digits_spec : {M : Type 1} → statement M
+put_digits_spec = close μ-put-digits λ t. put-digits-lts.spec (put_digits_below t, put-digits.Post) (put_digits_at t) put-digits.Post
    (λ c. search digits)
    (λ c. search digits)
    (λ c κs. (search digits, search digits))
    (λ c. search digits)
    (λ c. search digits)
    (λ c. search digits)
    (λ c. search digits)
    (λ c. search digits)
    (λ c. search digits)
