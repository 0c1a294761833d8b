-- `names::simple::simple_name` meets its contract. Assumes nothing.
use mathlib.Core.Path.{◌≡◌, ◌∙◌}
use mathlib.Core.List.{List}
use Prim.Native.Nat.{ℕ, ◌-◌}
use native.Mathlib.Omega.{arith}
use lib.ListN.{length, take, drop, length-drop}
use lib.Seq.{take_all}
use borrow.Author.Rules.{rules}
use Rattle.names.specs.Names.{simple_name}
use Rattle.names.proofs.simple.simple_name.Statement.{statement}
use Rattle.names.proofs.simple.simple_name.Tie as tie

from_start : (s : List ℕ) (r : ℕ) → drop r s ≡ simple_name s → take (length s - r) (drop r s) ≡ simple_name s
from_start s r e =
    let l : length (drop r s) ≡ length s - r = simp length-drop in
    take_all (length s - r) (drop r s) (omega arith) ∙ e

ruleset steps = (rules, from_start)

pub simple_name_spec : {M : Type 1} → statement M
simple_name_spec = tie.close (tie.spec (λ c κs. search steps) (λ c. search steps) (λ c. search steps) (λ c. search steps) (λ c. search steps))
