-- The last binder of a name in two lists of binders. Assumes nothing.
use Rattle.std.specs.Prelude.{◌≡◌, refl, List, [], ◌∷◌, ◌++◌, ℕ}
use Rattle.std.proofs.Common.{sym}
use Rattle.std.proofs.Math.Option.{Option, none, some}
use Rattle.names.specs.Lists.{maybe}
use Rattle.condition.specs.Condition.{Binder}
use Rattle.condition.specs.Walk.{named_here, last_named}

-- Of two, the later that is there.
module _ {A : Type 0} where
  pub later_none : (o : Option A) → maybe none some o ≡ o
  later_none none = refl
  later_none (some a) = refl

  pub later_assoc : (a b c : Option A) → maybe (maybe a some b) some c ≡ maybe a some (maybe b some c)
  later_assoc a b none = refl
  later_assoc a b (some c) = refl

pub last_append : (name : List ℕ) (xs ys : List Binder) → last_named name (xs ++ ys) ≡ maybe (last_named name xs) some (last_named name ys)
unfolding last_named
last_append name [] ys = sym (later_none _)
last_append name (x ∷ xs) ys = rw (last_append name xs ys) (sym (later_assoc (named_here name x.annotation x.slot) (last_named name xs) (last_named name ys)))
