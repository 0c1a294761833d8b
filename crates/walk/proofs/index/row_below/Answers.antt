-- `walk::index::row_below` meets its contract. Assumes nothing.
use mathlib.Core.Path.{◌≡◌, refl}
use Prim.Native.Nat.{ℕ, ◌<◌}
use borrow.Author.Rules.{rules}
use Rattle.std.specs.Prelude.{Some, None}
use Rattle.walk.specs.declared.Scope.{Scope}
use Rattle.walk.specs.Rows.{Row, scopes, width, Fits, below, Handed}
use Rattle.walk.proofs.index.row_below.Goals as goal

module _ (row : Row) (at n : ℕ) where
  place_below : row ≡ None → Handed row None (below row at n)
  unfolding below Fits
  place_below is = rw is (record { is = refl; alike = refl; wide = refl; fits = tt })

  scope_below : (scope : Scope) → row ≡ Some scope → at < 65536 → n < 65536 → Handed row (Some (record { holder = at; node = n })) (below row at n)
  unfolding below scopes width Fits
  scope_below scope is h i = rw is (record { is = refl; alike = refl; wide = refl; fits = (h, i) })

pub returns-in-None : goal.returns-in-None
returns-in-None c = search (rules, place_below)

pub returns-in-Some : goal.returns-in-Some
returns-in-Some c = search (rules, scope_below)
