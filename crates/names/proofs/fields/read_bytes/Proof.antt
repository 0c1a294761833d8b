-- `names::fields::read_bytes` meets its contract. Assumes nothing.
use mathlib.Core.Path.{◌≡◌}
use mathlib.Core.List.{List}
use Prim.Native.Nat.{ℕ, ◌+◌, ◌-◌, ◌≤◌, ◌<◌}
use native.Mathlib.Omega.{arith}
use lib.ListN.{length}
use borrow.Author.Rules.{rules}
use Rattle.names.specs.Fields.{bytes}
use Rattle.names.specs.Read.{ending}
use Rattle.names.specs.Laws.Readers.{bytes-end, bytes_got}
use Rattle.names.proofs.fields.read_bytes.Statement.{statement}
use Rattle.names.proofs.fields.read_bytes.Tie as tie
use Rattle.std.specs.Prelude.{Ok, Err}
use Rattle.names.specs.declared.refusal.Refusal.TheVariants.{Cut}

module _ (s : List ℕ) (at n : ℕ) where
  past_end : length s < at → Err Cut ≡ ending (bytes n s at)
  unfolding ending
  past_end h = rw (bytes-end s at n (omega arith))

  module _ (k : at ≤ length s) where
    too_short : length s - at < n → Err Cut ≡ ending (bytes n s at)
    unfolding ending
    too_short h = rw (bytes-end s at n (omega arith))

    there : n ≤ length s - at → Ok (at + n) ≡ ending (bytes n s at)
    unfolding ending
    there h = rw (bytes_got s at n (omega arith))

ruleset steps = (rules, past_end, too_short, there)

pub read_bytes_spec : {M : Type 1} → statement M
read_bytes_spec = tie.close (tie.spec (λ c. search steps) (λ c. search steps) (λ c. search steps) (λ c. search steps) (λ c. search steps))
