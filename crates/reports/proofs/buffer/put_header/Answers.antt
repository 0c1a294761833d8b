-- `reports::buffer::put_header` meets its contract: three writers, one behind the other. Assumes nothing.
use mathlib.Core.List.{List}
use Prim.Native.Nat.{ℕ, ◌+◌, ◌≤◌}
use native.Mathlib.Omega.{arith}
use lib.ListN.{length}
use Rattle.names.specs.Fields.{digits}
use Rattle.names.specs.Laws.Fields.{length_digits}
use Rattle.names.specs.Writer.{Stored}
use Rattle.names.specs.Laws.Writers.{stored_more, stored_length}
use Rattle.reports.specs.Decode.{header}
use borrow.Author.Rules.{rules}
use Rattle.reports.proofs.buffer.put_header.Goals as goal

module _ (start end long : ℕ) {s s₁ : List ℕ} {at n₁ : ℕ} (h : at + (10 + long) ≤ length s) (p : Stored s at (digits 4 start) s₁ n₁) where
  end_room : n₁ + 4 ≤ length s₁
  end_room = omega (arith, p.next, length_digits 4 start, stored_length p)

  module _ {s₂ : List ℕ} {n₂ : ℕ} (q : Stored s₁ n₁ (digits 4 end) s₂ n₂) where
    long_room : n₂ + 2 ≤ length s₂
    long_room = omega (arith, p.next, q.next, length_digits 4 start, length_digits 4 end, stored_length p, stored_length q)

    whole : {s₃ : List ℕ} {n₃ : ℕ} → Stored s₂ n₂ (digits 2 long) s₃ n₃ → Stored s at (header start end long) s₃ n₃
    unfolding header
    whole r = stored_more (stored_more p q) r

ruleset steps = (rules, end_room, long_room, whole)

pub put_u32-n-requires-2 : goal.put_u32-n-requires-2
put_u32-n-requires-2 c = search steps

pub put_u16-requires : goal.put_u16-requires
put_u16-requires c = search steps

pub returns : goal.returns
returns c = search steps
