-- What declares nothing. Assumes nothing.
use mathlib.Core.Path.{◌≡◌, refl}
use mathlib.Core.Bool.{true}
use mathlib.Core.List.{List, []}
use Prim.Native.Nat.{ℕ, ◌<◌}
use native.Mathlib.Omega.{arith}
use lib.ListN.{length}
use Rattle.condition.specs.Condition.{Condition, Aggregate, one, two, predicate, comparison, exists, tp, opaque, sum, count, call, binder}
use Rattle.condition.specs.Walk.{declared_by, declares}
use Rattle.nodes.specs.Kinds.{kind_of, aggregate_kind_of}
use Rattle.nodes.specs.Parts.{is_binders}
use Rattle.nodes.specs.Laws.Pieces.{counted_index}

pub binders_index : (s : List ℕ) (start : ℕ) → is_binders s start ≡ true → start < length s
binders_index s start acc = counted_index binder s start acc

-- an aggregate that is a call declares nothing
pub call_declares : (x : Aggregate) → aggregate_kind_of x ≡ 3 → declared_by x ≡ []
unfolding declared_by
call_declares (sum span sl bs body) e = absurd (omega arith)
call_declares (count span bs body) e = absurd (omega arith)
call_declares (call span) e = refl

-- a condition that is no Exists and no comparison declares nothing
pub declares_none : (x : Condition) → (kind_of x ≡ 9 → ⊥) → (kind_of x ≡ 8 → ⊥) → declares x ≡ []
unfolding declares
declares_none (one k span c) a b = refl
declares_none (two k span l r) a b = refl
declares_none (predicate span own ns act args) a b = refl
declares_none (comparison span op l r) a b = absurd (b refl)
declares_none (exists span bi c) a b = absurd (a refl)
declares_none (tp span sl) a b = refl
declares_none (opaque span) a b = refl
