-- A constant table of texts: they lie one behind the other, and a list says where each starts and the last one ends.
-- Every entry is right where one test is, which antt computes (`right_below`). Assumes nothing.
use Rattle.std.specs.Prelude.{◌≡◌, Bool, ◌&&◌, List, length, get_or, take, drop}
use Rattle.std.proofs.Math.Path.{refl}
use Rattle.std.proofs.Math.Bool.{true, false}
use Prim.Native.Nat.{ℕ, zero, suc, ◌+◌, ◌-◌, ◌≤◌, ◌<◌}
use Rattle.std.proofs.Common.{arith}
use Rattle.std.proofs.Math.Dec.{leb, eqb}
use borrow.Author.Tests.{leb-true, eqb-true, eqb-false}
use Rattle.names.specs.Names.{same}
use Rattle.names.specs.Laws.Names.{same_eq, and_left, and_right}

module _ (table ends : List ℕ) (word : ℕ → List ℕ) where
  abbrev part : ℕ → List ℕ
  part n = take (get_or ends (n + 1) 0 - get_or ends n 0) (drop (get_or ends n 0) table)

  pub record Entry (n : ℕ) : Type 0 where
    pub start : get_or ends n 0 ≤ get_or ends (n + 1) 0
    pub end : get_or ends (n + 1) 0 ≤ length table
    pub is : part n ≡ word n

  unfoldable pub right : ℕ → Bool
  right n = leb (get_or ends n 0) (get_or ends (n + 1) 0) && leb (get_or ends (n + 1) 0) (length table) && same (part n) (word n)

  unfoldable pub right_below : ℕ → Bool
  right_below zero = true
  right_below (suc n) = right n && right_below n

  entry_right : (n : ℕ) → right n ≡ true → Entry n
  unfolding right
  entry_right n h =
      let l = leb (get_or ends n 0) (get_or ends (n + 1) 0) in
      let r = leb (get_or ends (n + 1) 0) (length table) in
      let s = same (part n) (word n) in
      let lr = and_left (l && r) s h in
      record { start = leb-true _ _ (and_left l r lr); end = leb-true _ _ (and_right l r lr); is = same_eq _ _ (and_right (l && r) s h) }

  pub entry : (m : ℕ) → right_below m ≡ true → (n : ℕ) → n < m → Entry n
  unfolding right_below
  entry zero h n b = absurd (omega arith)
  entry (suc m) h n b =
      (elim (eqb n m) as (λ t. eqb n m ≡ t → Entry n) [
        | true ↦ λ e. rw (eqb-true n m e) (entry_right m (and_left (right m) (right_below m) h))
        | false ↦ λ e. entry m (and_right (right m) (right_below m) h) n (let d = eqb-false n m e in omega arith)
      ]) refl
