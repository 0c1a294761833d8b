-- A truncated fact about the table of reached conditions is that fact itself. Assumes nothing.
use Rattle.std.specs.Prelude.{ℕ, ◌+◌, List, [], ◌∷◌, get_or}
use Rattle.std.proofs.Props.{props}
use Rattle.std.specs.Coded.{×_prop, Unit-prop}
use Rattle.std.proofs.Math.Logic.{∥∥₁_elim}
use Rattle.condition.specs.Condition.{Condition, Condition-set}
use mathlib.Core.Sum.{⊎_set}
use Rattle.walk.specs.Laws.Mere.{Binder-set}
use Rattle.walk.specs.Index.{StandsAt, Indexes, Index}

condition_set : IsSet Condition
condition_set =
    Condition-set (hlevel (props, ⊎_set)) (hlevel (props, ⊎_set)) (hlevel (props, ⊎_set)) (hlevel props) (hlevel props) (hlevel (props, ⊎_set)) Binder-set (hlevel (props, ⊎_set)) (hlevel (props, ⊎_set)) (hlevel (props, ⊎_set)) (hlevel (props, ⊎_set))
    (hlevel (props, Binder-set))

stands_prop : (s : List ℕ) (at : ℕ) (x : Condition) → IsProp (StandsAt s at x)
stands_prop s at x = hlevel (props, condition_set)

indexes_prop : (s table : List ℕ) (n : ℕ) (xs : List Condition) → IsProp (Indexes s table n xs)
unfolding Indexes
indexes_prop s table n [] = Unit-prop
indexes_prop s table n (x ∷ xs) = ×_prop (stands_prop s (get_or table n 0) x) (indexes_prop s table (n + 1) xs)

pub index_prop : (s places : List ℕ) → IsProp (Index s places)
index_prop s places = hlevel (props, indexes_prop)

pub mere_index : (s places : List ℕ) → ∥ Index s places ∥₁ → Index s places
mere_index s places t = ∥∥₁_elim t (index_prop s places) (λ x. x)
