-- `condition::read::version` meets its contract. Assumes nothing.
use mathlib.Core.Path.{◌≡◌}
use mathlib.Core.List.{List}
use Prim.Native.Nat.{ℕ}
use borrow.Author.Rules.{rules}
use lib.ListN.{take, drop}
use Rattle.names.specs.Fields.{number}
use Rattle.condition.specs.Places.{version_in}
use Rattle.condition.proofs.read.version.Statement.{statement}
use Rattle.condition.proofs.read.version.Tie as tie

version_stands : (s : List ℕ) (r : ℕ) → r ≡ number 0 (take 2 (drop 3 s)) → r ≡ version_in s
unfolding version_in
version_stands s r e = e

ruleset steps = (rules, version_stands)

pub version_spec : {M : Type 1} → statement M
version_spec = tie.close (tie.spec (λ c κs. search steps) (λ c. search steps))
