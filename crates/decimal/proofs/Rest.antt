-- A slice from an index to the end, as the code takes it. Assumes nothing.
use mathlib.Core.Path.{◌≡◌}
use mathlib.Core.List.{List}
use Prim.Native.Nat.{ℕ, ◌-◌}
use native.Mathlib.Omega.{arith}
use lib.ListN.{length, take, drop, length-drop}
use lib.Seq.{take_all}

pub rest : (s : List ℕ) (i : ℕ) → take (length s - i) (drop i s) ≡ drop i s
rest s i = take_all (length s - i) (drop i s) (simp length-drop (omega arith))
