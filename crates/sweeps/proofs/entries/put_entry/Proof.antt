-- `sweeps::entries::put_entry` meets its contract: three numbers, one behind the other. Assumes nothing.
use mathlib.Core.List.{List}
use Prim.Native.Nat.{ℕ, ◌+◌, ◌≤◌}
use native.Mathlib.Omega.{arith}
use lib.ListN.{length}
use borrow.Author.Rules.{rules}
use Rattle.names.specs.Fields.{digits}
use Rattle.names.specs.Writer.{Stored}
use Rattle.names.specs.Laws.Fields.{length_digits}
use Rattle.names.specs.Laws.Writers.{stored_length, stored_more}
use Rattle.sweeps.specs.Entries.{encoded}
use Rattle.sweeps.proofs.entries.put_entry.Statement.{statement}
use Rattle.sweeps.proofs.entries.put_entry.Tie as tie

module _ (s : List ℕ) (at start : ℕ) (s₁ : List ℕ) (n₁ : ℕ) (h : Stored s at (digits 4 start) s₁ n₁) where
  sweeps_room : at + 20 ≤ length s → n₁ + 8 ≤ length s₁
  sweeps_room room = omega (arith, h.next, length_digits 4 start, stored_length h)

  module _ (sweeps : ℕ) (s₂ : List ℕ) (n₂ : ℕ) (k : Stored s₁ n₁ (digits 8 sweeps) s₂ n₂) where
    rest_room : at + 20 ≤ length s → n₂ + 8 ≤ length s₂
    rest_room room = omega (arith, h.next, k.next, length_digits 4 start, length_digits 8 sweeps, stored_length h, stored_length k)

    all : (rest : ℕ) (s₃ : List ℕ) (r : ℕ) → Stored s₂ n₂ (digits 8 rest) s₃ r → Stored s at (encoded (record { start = start; sweeps = sweeps; rest = rest })) s₃ r
    unfolding encoded
    all rest s₃ r l = stored_more (stored_more h k) l

ruleset steps = (rules, sweeps_room, rest_room, all)

pub put_entry_spec : {M : Type 1} → statement M
put_entry_spec = tie.close (tie.spec (λ c κs. search steps) (λ c κs. search steps) (λ c κs. search steps) (λ c. search steps) (λ c. search steps))
